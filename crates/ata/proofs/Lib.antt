pub mod Joins
pub mod Power
pub mod Lit
pub mod Ranges
pub mod Shown
pub mod Levels
pub mod Unseen
