pub mod Flat
pub mod Chain
