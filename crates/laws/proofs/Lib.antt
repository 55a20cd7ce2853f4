pub mod Append
pub mod Bytes
pub mod Lines
pub mod Lists
pub mod Places
pub mod Split
pub mod Table
