-- What the contracts of this crate cite.
pub mod Traces
pub mod HostTrees
pub mod Guarantees
