pub mod Lengths
pub mod Known
