pub mod Elections
pub mod Ensembles
pub mod Expiries
pub mod Ports
pub mod Rounds
pub mod Services
