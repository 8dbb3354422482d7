pub mod Once
pub mod Prints
pub mod Runs
