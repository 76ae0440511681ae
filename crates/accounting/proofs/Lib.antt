pub mod Tables
pub mod Handing
pub mod Counting
pub mod Words
pub mod Different
mod Shifting
