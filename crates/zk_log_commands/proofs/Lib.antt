pub mod AssemblingLaws
pub mod LinesLaws
pub mod ListedLaws
pub mod PageLaws
pub mod TextLaws
pub mod ShowingLaws
pub mod TellingLaws
