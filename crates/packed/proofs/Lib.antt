pub mod Refusals
pub mod PieceLength
pub mod EventPacked
pub mod SpellSize
pub mod SpellLoop
pub mod Answers
