pub mod Lines
pub mod Said
pub mod Statements
