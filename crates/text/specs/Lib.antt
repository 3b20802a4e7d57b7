pub mod Words
pub mod Numbers
pub mod Names
pub mod Kinds
pub mod Marks
pub mod Indices
pub mod Locations
pub mod Reading
