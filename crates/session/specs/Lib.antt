pub mod Names
pub mod Entered
pub mod Unmade
pub mod Wrongs
