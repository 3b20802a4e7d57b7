pub mod Ends
pub mod Written
