pub mod Finished
pub mod Lined
pub mod Ranked
pub mod Repeated
pub mod Texts
pub mod Listed
pub mod Sums
pub mod Owning
