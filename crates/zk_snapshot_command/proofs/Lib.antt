pub mod Owning
pub mod Parting
pub mod Rereading
