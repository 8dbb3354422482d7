pub mod Buses
pub mod Dues
pub mod Exits
pub mod Losses
pub mod Within
