pub mod Turning
pub mod Chaining
