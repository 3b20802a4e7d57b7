pub mod Kinds
pub mod Limits
pub mod Numbers
pub mod Values
pub mod Uses
