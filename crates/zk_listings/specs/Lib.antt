-- What the contracts of this crate cite.
pub mod Lines
pub mod Tails
pub mod Growths
pub mod Followings
pub mod FollowedListings
pub mod Listings
