pub mod Scans
pub mod Texts
pub mod KindNames
pub mod Numerals
pub mod LineWords
