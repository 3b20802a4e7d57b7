pub mod Places
pub mod Find
pub mod Listing
pub mod Values
