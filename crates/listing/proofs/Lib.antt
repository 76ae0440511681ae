pub mod Opened
pub mod Asked
pub mod Keeping
pub mod Cutting
pub mod Feeding
pub mod Filling
pub mod Running
pub mod Words
