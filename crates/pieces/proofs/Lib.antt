pub mod Placing
pub mod Images
