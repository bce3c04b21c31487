pub mod Ended
pub mod Readings
pub mod NumberLaws
pub mod FieldLaws
pub mod Flags
pub mod PartTexts
pub mod RequestTexts
pub mod LookupTexts
