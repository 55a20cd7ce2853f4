pub mod Alike
pub mod Change
