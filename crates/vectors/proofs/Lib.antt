pub mod Made
pub mod Letters
