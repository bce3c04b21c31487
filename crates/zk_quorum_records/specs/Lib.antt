pub mod Packets
pub mod Elections
pub mod Items
pub mod Reading
pub mod Streams
