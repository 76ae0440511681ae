pub mod Flat
pub mod Each
