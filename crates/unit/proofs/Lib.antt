pub mod Ranges
pub mod Calls
pub mod Working
pub mod Worked
pub mod Commanded
pub mod Identified
