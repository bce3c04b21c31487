-- What the contracts of this crate cite.
pub mod Delivered
pub mod Failures
pub mod WatchedTrees
