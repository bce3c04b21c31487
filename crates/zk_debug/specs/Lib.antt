pub mod Breakpoints
pub mod Debugging
pub mod Walks
pub mod Numbers
pub mod Commands
pub mod Reading
pub mod Answers
pub mod Scripts
