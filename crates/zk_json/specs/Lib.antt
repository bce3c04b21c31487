-- What the contracts of this crate cite.
pub mod Times
pub mod Json
pub mod Records
pub mod Nodes
pub mod Objects
pub mod Changes
pub mod Incidents
