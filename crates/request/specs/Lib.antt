pub mod Setup
pub mod Request
pub mod Spelled
