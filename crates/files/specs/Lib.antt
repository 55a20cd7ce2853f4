pub mod Came
pub mod Unreadable
