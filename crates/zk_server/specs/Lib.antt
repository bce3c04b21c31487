-- What the contracts of this crate cite.
pub mod Elections
pub mod Modes
pub mod Deeds
pub mod Mail
pub mod Sites
pub mod Turns
pub mod Peers
pub mod Ensembles
pub mod LinkedPeers
pub mod LinkedEnsembles
