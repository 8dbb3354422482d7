pub mod Climbs
pub mod Rounds
pub mod Yields
pub mod Trees
pub mod Parts
pub mod Honest
pub mod Alone
