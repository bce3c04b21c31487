pub mod Following
pub mod Placing
