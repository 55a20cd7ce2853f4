pub mod Sane
pub mod Touched
