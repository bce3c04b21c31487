-- What the contracts of this crate cite.
pub mod Inboxes
pub mod LocalLinks
