pub mod Flat
pub mod Accounts
pub mod Each
