-- What the contracts of this crate cite.
pub mod RequestLines
pub mod ReplyLines
pub mod Reading
pub mod Promises
