pub mod Branch
pub mod Verdicts
