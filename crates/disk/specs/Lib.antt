pub mod Cells
pub mod Powers
pub mod Claimed
pub mod Orders
pub mod Quiet
pub mod Copied
