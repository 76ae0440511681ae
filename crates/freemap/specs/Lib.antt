pub mod Gaps
pub mod Fit
pub mod Bytes
pub mod Inner
