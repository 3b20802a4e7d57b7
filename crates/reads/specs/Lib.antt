pub mod Rows
pub mod Parents
