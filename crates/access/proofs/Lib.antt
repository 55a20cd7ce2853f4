pub mod Address
pub mod Spans
pub mod Theorems
