pub mod Children
pub mod FaultLaw
pub mod Faults
pub mod Plain
pub mod Slashes
