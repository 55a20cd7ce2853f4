pub mod Numbers
pub mod Texts
pub mod Parts
pub mod Turns
