pub mod First
pub mod Verdict
pub mod Family
