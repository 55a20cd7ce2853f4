pub mod Likeness
pub mod Sure
pub mod Actions
pub mod InForm
pub mod Deeds
