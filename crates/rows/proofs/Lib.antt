pub mod Numbered
pub mod Scanned
pub mod Read
pub mod Sums
