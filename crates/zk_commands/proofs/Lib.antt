-- Lemmas of this crate.
pub mod Parts
pub mod Pasts
pub mod Kept
pub mod DiffLaws
pub mod ListLaws
pub mod BytesLaws
pub mod LineLaws
pub mod TurnLaws
pub mod TalkLaws
pub mod ScriptLaws
pub mod OutputTexts
pub mod Written
pub mod LastLines
pub mod Gathered
pub mod Started
