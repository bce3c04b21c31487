-- Lemmas.
pub mod Answered
pub mod Ending
pub mod FrontLaws
pub mod Pieces
pub mod Reaches
pub mod Running
pub mod Taking
pub mod Telling
pub mod Calling
pub mod Keeping
pub mod Expiring
pub mod Beginning
pub mod Reading
