pub mod Fields
pub mod Transfers
pub mod Requests
pub mod Rooms
