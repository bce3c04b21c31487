-- What the contracts of this crate cite.
pub mod Meanings
pub mod Pairs
pub mod Comparisons
pub mod Findings
pub mod Lines
pub mod Objects
pub mod Notices
pub mod Sources
pub mod Trees
pub mod Reports
pub mod Several
