pub mod Requests
pub mod Admitted
pub mod Outcomes
pub mod Order
pub mod Form
pub mod Theorems
pub mod Deeds
