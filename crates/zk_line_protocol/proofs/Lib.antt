-- Lemmas.
pub mod AnswerLaws
pub mod LineLaws
pub mod LoneFields
pub mod OutsideMultis
pub mod SayingLaws
pub mod Texts
pub mod WholeReadings
