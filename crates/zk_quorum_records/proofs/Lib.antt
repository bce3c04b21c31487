pub mod Steady
pub mod Frames
pub mod Fields
pub mod TreeFields
pub mod ElectionFields
pub mod ItemFields
pub mod Streams
