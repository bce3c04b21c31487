-- What the contracts of this crate cite.
-- The statements of the laws.
pub mod Counts
pub mod FirstOwners
pub mod Histories
pub mod Owners
pub mod Tops
pub mod Within
pub mod Writes
pub mod CountSums
pub mod Listings
pub mod HistoryReports
pub mod TopReports
