pub mod Mapping
pub mod Rowing
pub mod Looping
pub mod Usages
pub mod Parts
pub mod Placing
pub mod Whole
pub mod Answering
