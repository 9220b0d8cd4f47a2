mod Taking
mod Keeps
pub mod Forms
