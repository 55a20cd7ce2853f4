pub mod Cases
pub mod Bounds
pub mod Form
pub mod Asking
