pub mod Halves
pub mod Walking
pub mod Known
pub mod EventText
pub mod CapitalText
pub mod WalkEvents
