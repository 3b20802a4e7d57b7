pub mod Sizes
pub mod Of
pub mod Counts
pub mod NewRow
