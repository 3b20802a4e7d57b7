pub mod Fed
pub mod Ranges
