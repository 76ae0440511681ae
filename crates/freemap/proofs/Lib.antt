pub mod Maximal
pub mod Ordered
pub mod Words
pub mod Places
pub mod Held
pub mod Parts
pub mod Sweeping
mod Fitting
mod Counting
mod Reading
