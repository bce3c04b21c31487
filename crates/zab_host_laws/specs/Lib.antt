-- What the contracts of this crate cite.
pub mod Recovery
pub mod Survival
pub mod Adoptions
pub mod Hosts
pub mod Agreement
pub mod Prefixes
pub mod Releases
pub mod NeverBack
pub mod Composition
pub mod Tags
pub mod Syncs
pub mod Fits
pub mod TakenSyncs
