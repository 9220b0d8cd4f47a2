pub mod Sides
pub mod Meaning
pub mod Levels
pub mod Sound
