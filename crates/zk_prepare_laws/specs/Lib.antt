pub mod Prepared
pub mod Consequences
