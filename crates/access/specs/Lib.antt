pub mod Access
pub mod Boards
pub mod Counts
