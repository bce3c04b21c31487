-- What the contracts of this crate cite.
pub mod Answers
pub mod CommandReading
pub mod Commands
pub mod FirstLineReading
pub mod FirstLines
pub mod Playing
pub mod Scripts
pub mod Lines
