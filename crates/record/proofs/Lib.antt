pub mod Spelling
pub mod Sums
pub mod Reading
pub mod Writing
pub mod Learnt
pub mod Written
