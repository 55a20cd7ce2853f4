pub mod Record
pub mod Ways
