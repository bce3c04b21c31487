-- What the contracts of this crate cite.
pub mod Elections
pub mod Faults
pub mod Hosts
pub mod Lending
pub mod Links
pub mod Peers
pub mod Places
