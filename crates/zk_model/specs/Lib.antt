-- What the contracts of this crate cite.
pub mod Counting
pub mod Ensembles
pub mod Entries
pub mod Refusals
pub mod Runs
pub mod Shortness
