-- What the contracts of this crate cite.
pub mod Lines
pub mod Histories
pub mod Logs
pub mod Nodes
pub mod Tops
pub mod Differences
pub mod Verifications
pub mod States
