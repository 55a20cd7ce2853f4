pub mod Wire
pub mod Table
