pub mod Sort
pub mod Places
pub mod Inner
pub mod Part
