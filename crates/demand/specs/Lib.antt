pub mod Boards
pub mod Verdict
pub mod Checked
pub mod Demand
