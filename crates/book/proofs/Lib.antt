pub mod Sounds
pub mod Changes
