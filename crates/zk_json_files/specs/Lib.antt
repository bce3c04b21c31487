-- What the contracts of this crate cite.
pub mod Snapshots
pub mod Logs
pub mod Unread
pub mod Files
