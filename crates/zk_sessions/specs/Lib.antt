-- What the contracts of this crate cite.
pub mod Moments
pub mod Sessions
pub mod Ephemerals
pub mod Lives
pub mod WriteSums
pub mod Writes
pub mod Known
