-- What the contracts of this crate cite.
pub mod Turns
pub mod Servers
pub mod Removals
pub mod Ensembles
