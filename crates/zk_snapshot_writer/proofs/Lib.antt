pub mod Joined
pub mod Handing
pub mod Sums
pub mod Parts
pub mod Paths
