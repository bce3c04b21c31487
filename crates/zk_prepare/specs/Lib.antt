pub mod Deadlines
pub mod Preparing
