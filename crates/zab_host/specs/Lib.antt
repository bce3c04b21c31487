-- What the contracts of this crate cite.
pub mod Durability
pub mod Growth
pub mod Hosts
pub mod Tags
pub mod Votes
pub mod LoneLeaders
