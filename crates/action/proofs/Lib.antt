pub mod Denials
pub mod Bounds
pub mod Proper
