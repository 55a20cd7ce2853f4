pub mod View
pub mod Doors
pub mod Known
