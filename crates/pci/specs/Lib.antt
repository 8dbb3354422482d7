pub mod Digits
pub mod Faults
pub mod Fields
pub mod Kinds
pub mod Numbers
