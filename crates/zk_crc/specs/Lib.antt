-- The definitions that this crate's contracts cite.
pub mod Crc
