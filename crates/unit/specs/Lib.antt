pub mod Replies
pub mod Fitness
pub mod Capacity
pub mod Courses
pub mod Works
pub mod Attached
pub mod Commanded
