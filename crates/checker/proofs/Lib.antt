pub mod Walking
pub mod Advancing
pub mod Judging
pub mod Right
pub mod Beginning
