pub mod Consequences
pub mod Firing
pub mod Following
pub mod Headlines
pub mod ReadLaws
pub mod ReadWatches
pub mod Showing
pub mod Standing
