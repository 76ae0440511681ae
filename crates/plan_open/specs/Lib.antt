pub mod Open
pub mod Rows
pub mod Accounts
pub mod Build
