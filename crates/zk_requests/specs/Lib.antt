pub mod Overlays
pub mod Refusals
pub mod Requests
pub mod Timeouts
