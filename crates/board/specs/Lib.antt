pub mod Layout
pub mod Span
pub mod Memory
pub mod Supply
pub mod Sound
