pub mod Region
pub mod World
pub mod Open
pub mod Span
pub mod Calls
pub mod Demand
pub mod Listing
pub mod Opens
