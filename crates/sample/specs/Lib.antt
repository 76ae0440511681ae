pub mod Sample
pub mod Words
pub mod Tally
pub mod Inner
pub mod Cases
