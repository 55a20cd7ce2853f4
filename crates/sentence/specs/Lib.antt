pub mod Address
pub mod Sentence
