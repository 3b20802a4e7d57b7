pub mod Kept
pub mod Few
pub mod Fills
pub mod Listed
