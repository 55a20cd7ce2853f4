pub mod Bytes
pub mod Lines
pub mod Lists
pub mod Table
pub mod Ascii
