pub mod Changing
pub mod Expiring
pub mod Places
pub mod Removing
pub mod Settling
pub mod Turning
