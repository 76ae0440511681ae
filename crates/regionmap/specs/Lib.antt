pub mod Map
pub mod Inner
pub mod RunRecords
