pub mod Supply
pub mod Order
pub mod Theorems
