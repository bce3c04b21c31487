pub mod Texts
pub mod Sorted
pub mod Sums
