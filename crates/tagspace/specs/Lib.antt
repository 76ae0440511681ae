pub mod Row
pub mod Extent
