pub mod Leads
pub mod Same
pub mod Turns
pub mod Holds
pub mod Honest
pub mod Once
