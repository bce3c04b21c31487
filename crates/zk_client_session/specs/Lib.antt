pub mod ConnectionWatches
pub mod LinkLaws
pub mod Links
pub mod Parts
pub mod Replies
pub mod SavedWatches
pub mod TreeReads
