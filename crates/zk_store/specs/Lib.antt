-- What the contracts of this crate cite.
pub mod Books
pub mod Tags
pub mod OldFormat
pub mod Changes
pub mod LogReading
pub mod Storing
pub mod Faults
pub mod Stores
pub mod Holding
