pub mod Running
pub mod Position
pub mod Driving
pub mod Example
