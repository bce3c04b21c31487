-- The definitions that this crate's contracts cite.
pub mod Arriving
pub mod Asks
pub mod Fronts
pub mod Happening
pub mod Locals
pub mod Reaching
pub mod Serving
pub mod ServiceStarting
pub mod Calling
pub mod Keeping
pub mod Reading
pub mod Remotes
pub mod Starting
