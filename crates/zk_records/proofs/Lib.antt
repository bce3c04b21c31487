pub mod EntryLaws
pub mod Fitting
pub mod Joined
pub mod JournalLaws
pub mod Lanes
pub mod Lengths
pub mod SumLaws
pub mod WritingLaws
