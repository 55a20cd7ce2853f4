pub mod Learning
pub mod Sureness
pub mod Erasing
pub mod Copying
pub mod Opened
