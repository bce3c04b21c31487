pub mod PathLaws
pub mod Paths
pub mod Plain
pub mod Sequences
