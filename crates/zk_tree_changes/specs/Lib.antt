-- What the contracts of this crate cite.
pub mod Changes
pub mod Differences
pub mod Laws
pub mod Texts
pub mod Lines
pub mod Scripts
pub mod Words
pub mod DifferenceReports
pub mod ScriptReports
