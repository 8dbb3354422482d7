pub mod Faults
pub mod Fields
pub mod Fitting
pub mod Kept
pub mod Lines
pub mod Numbers
