-- What the contracts of this crate cite.
pub mod Rollbacks
pub mod Adoptions
pub mod Outputs
