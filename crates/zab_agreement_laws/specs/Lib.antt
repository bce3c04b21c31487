-- What the contracts of this crate cite.
pub mod Agreement
pub mod Facts
pub mod Laws
pub mod Moments
pub mod Origins
pub mod Promises
pub mod Syncs
