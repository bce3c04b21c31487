pub mod Keeping
pub mod Quiet
pub mod Runs
