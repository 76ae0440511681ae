pub mod Filling
pub mod Listing
pub mod Laying
pub mod Passing
pub mod Settling
