pub mod Reach
pub mod Stays
