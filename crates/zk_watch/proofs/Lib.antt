pub mod Kept
pub mod Search
pub mod Quiet
pub mod Ranges
pub mod Dropped
pub mod Guide
pub mod Live
pub mod Instructions
