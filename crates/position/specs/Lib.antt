pub mod Runs
pub mod Position
pub mod Caller
pub mod Example
