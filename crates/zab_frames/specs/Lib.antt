-- What the contracts of this crate cite.
pub mod Messages
pub mod Ranges
pub mod Frames
pub mod Streams
pub mod Reading
