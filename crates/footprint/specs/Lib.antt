pub mod Footprint
pub mod Inner
