mod Meant
pub mod Once
