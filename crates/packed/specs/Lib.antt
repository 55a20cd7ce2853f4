pub mod Packed
pub mod Calls
pub mod Ways
