pub mod EdgeLimits
pub mod Edited
pub mod Family
pub mod Edges
