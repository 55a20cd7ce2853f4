pub mod Fields
pub mod Spelling
pub mod CapitalLine
pub mod FirstLine
pub mod Formed
pub mod LineLength
pub mod EventLine
pub mod SpellLine
