pub mod Spelling
pub mod Reports
pub mod Listings
