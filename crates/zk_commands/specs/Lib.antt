-- The definitions that this crate's contracts cite.
-- What the contracts of this crate cite.
pub mod Shorthand
pub mod Shown
pub mod Lists
pub mod Diffs
pub mod Words
pub mod Texts
pub mod Answering
pub mod HearingBytes
pub mod Prompts
pub mod Lines
pub mod HearingLines
pub mod Talking
pub mod Holding
pub mod Laws
pub mod FaultLines
pub mod Reports
pub mod Mends
pub mod Running
pub mod Acting
pub mod Later
pub mod Outcomes
pub mod Starts
pub mod Questions
pub mod LogFolders
