pub mod Contents
pub mod SessionContents
pub mod Reading
pub mod Streams
pub mod Taking
pub mod Hearing
pub mod Writing
