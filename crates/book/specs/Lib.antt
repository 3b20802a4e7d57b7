pub mod Parts
pub mod Of
pub mod Rows
