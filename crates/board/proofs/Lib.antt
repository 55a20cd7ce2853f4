pub mod Pages
pub mod Counts
pub mod Span
pub mod Stretches
pub mod Supply
pub mod Logger
pub mod Addresses
pub mod Options
