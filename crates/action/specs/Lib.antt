pub mod Action
pub mod Reach
