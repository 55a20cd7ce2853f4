pub mod Calls
pub mod Ways
