pub mod AclRecords
pub mod Frames
pub mod Reading
pub mod Replies
pub mod Requests
