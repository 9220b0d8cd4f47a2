mod Turns
mod Writes
