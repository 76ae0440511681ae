pub mod Joining
pub mod Positions
pub mod Bytes
