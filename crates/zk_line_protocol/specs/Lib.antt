-- The definitions that this crate's contracts cite.
pub mod Answers
pub mod Appending
pub mod Connections
pub mod Lines
pub mod Pendings
pub mod ParsedLines
pub mod Spelled
pub mod Tellings
