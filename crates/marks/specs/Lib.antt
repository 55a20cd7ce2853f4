pub mod Area
pub mod Work
