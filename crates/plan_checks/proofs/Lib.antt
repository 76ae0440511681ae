pub mod Along
pub mod Listing
pub mod Logging
pub mod Sharing
pub mod Checking
pub mod Early
