pub mod Changes
pub mod Sorted
