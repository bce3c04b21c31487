-- What the contracts of this crate cite.
pub mod FoundOutputs
pub mod FirstKnown
pub mod Reports
pub mod SessionLives
