pub mod Plan
pub mod Record
pub mod Lent
