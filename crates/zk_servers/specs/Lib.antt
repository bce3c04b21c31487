-- The definitions that this crate's contracts cite.
pub mod Calls
pub mod Chronicles
pub mod Closing
pub mod Delivering
pub mod Receipts
pub mod Keeping
pub mod Looking
pub mod Turns
pub mod Running
