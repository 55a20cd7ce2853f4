pub mod Performs
pub mod Moves
pub mod Events
pub mod Runs
pub mod Boards
pub mod Judgement
pub mod Lowest
