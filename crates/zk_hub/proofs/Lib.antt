pub mod Kept
pub mod NoReads
pub mod Order
pub mod Requests
pub mod Setting
