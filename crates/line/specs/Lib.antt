pub mod Event
pub mod Line
pub mod Ways
