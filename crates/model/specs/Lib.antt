pub mod Model
pub mod Checks
pub mod Steps
pub mod Sound
pub mod Lasts
