pub mod Rows
pub mod Tables
pub mod Stages
pub mod Books
