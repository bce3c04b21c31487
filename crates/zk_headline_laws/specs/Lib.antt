-- What the contracts of this crate cite.
pub mod Consequences
pub mod Headline
pub mod Traces
pub mod ReadWatches
