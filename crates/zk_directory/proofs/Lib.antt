pub mod Entries
pub mod Digits
pub mod FileEntries
pub mod Joints
pub mod Resumptions
