-- What the contracts of this crate cite.
pub mod OneOf
pub mod FileStores
pub mod Epochs
pub mod Faults
pub mod Identities
pub mod Started
