pub mod Refusals
pub mod Measuring
pub mod Packing
pub mod PackLoop
pub mod Answers
pub mod Order
pub mod Theorems
