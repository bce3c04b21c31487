-- What the contracts of this crate cite.
pub mod Counting
pub mod Movers
pub mod Refusals
pub mod Replacing
pub mod Running
pub mod Runs
pub mod ProcessStates
pub mod Worlds
