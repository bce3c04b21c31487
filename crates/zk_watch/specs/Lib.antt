pub mod Watching
pub mod Places
pub mod WatchLaws
