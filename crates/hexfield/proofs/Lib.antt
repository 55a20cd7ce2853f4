pub mod Fields
pub mod Parts
pub mod Capitals
pub mod Looking
pub mod Eights
