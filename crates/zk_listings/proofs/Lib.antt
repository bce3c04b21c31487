pub mod Finished
pub mod Following
pub mod Sights
pub mod Followed
pub mod FollowedListings
pub mod Listed
