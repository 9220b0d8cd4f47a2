pub mod Tasks
pub mod Talk
pub mod Asks
pub mod Said
pub mod Steps
