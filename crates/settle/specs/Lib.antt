pub mod Regions
pub mod Settle
pub mod Inner
pub mod Ranking
pub mod Laying
pub mod Sweeping
pub mod Naming
