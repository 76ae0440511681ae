pub mod Chaining
pub mod Coding
