-- What the contracts of this crate cite.
pub mod Notices
pub mod SessionNotices
pub mod Packets
pub mod Links
pub mod Outputs
