pub mod Found
pub mod Numbering
pub mod Steps
pub mod Runs
pub mod Hits
pub mod Words
pub mod Commands
pub mod Scripts
