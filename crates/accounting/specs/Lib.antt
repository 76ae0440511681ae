pub mod Table
pub mod Entries
pub mod Inner
