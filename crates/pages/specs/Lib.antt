pub mod Page
pub mod Seen
