pub mod Surveying
pub mod Follow
pub mod Followed
pub mod Loaded
pub mod Written
pub mod Reported
pub mod Found
pub mod Unlisted
