pub mod Wholes
pub mod CommandTexts
pub mod Weights
pub mod FirstLineTexts
pub mod Kept
pub mod PlaysLaws
pub mod Pieces
pub mod Spelled
