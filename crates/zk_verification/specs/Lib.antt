-- What the contracts of this crate cite.
pub mod Breaks
pub mod Findings
pub mod Helps
pub mod Marks
pub mod Reports
pub mod Surveys
pub mod Following
pub mod Outcomes
pub mod Verifications
