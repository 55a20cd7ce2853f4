pub mod Played
pub mod Asked
