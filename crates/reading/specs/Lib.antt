pub mod Grammar
pub mod Items
pub mod Phrases
pub mod Readings
pub mod Targets
