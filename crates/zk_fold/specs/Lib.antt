pub mod Slots
pub mod NodeIndexes
pub mod Folds
