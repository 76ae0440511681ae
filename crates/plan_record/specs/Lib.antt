pub mod Record
pub mod Plan
pub mod Inner
pub mod Promises
