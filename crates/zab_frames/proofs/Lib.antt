pub mod FieldLaws
pub mod CallLaws
pub mod EntryLaws
pub mod MessageLaws
pub mod FrameLaws
pub mod StreamLaws
pub mod Joined
