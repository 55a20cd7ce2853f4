pub mod Byte
pub mod Bits
pub mod Ways
