pub mod Image
pub mod Refusals
pub mod Ways
