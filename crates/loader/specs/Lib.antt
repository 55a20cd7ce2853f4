pub mod Answer
pub mod Serve
pub mod Step
pub mod Inner
pub mod World
