pub mod Parts
pub mod Writing
pub mod Digits
pub mod Fields
pub mod Grammar
