pub mod Opening
pub mod Early
pub mod Each
