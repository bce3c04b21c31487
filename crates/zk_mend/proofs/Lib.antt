-- Lemmas of this crate.
pub mod Totals
pub mod DigestSteps
pub mod Start
pub mod Ends
pub mod NewerTrees
pub mod OldLogs
pub mod OneWay
pub mod Refusals
pub mod Sparing
pub mod Steps
pub mod Walks
pub mod Wholes
