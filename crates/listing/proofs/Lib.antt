pub mod Fits
pub mod Follow
pub mod Short
pub mod Texts
