pub mod Lines
pub mod Program
pub mod Session
pub mod Feeding
pub mod Running
