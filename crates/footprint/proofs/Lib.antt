pub mod Scan
pub mod Overlap
pub mod Laying
pub mod Passed
pub mod Answer
pub mod Blocks
pub mod Regular
pub mod Accepted
