pub mod Finished
pub mod Lived
pub mod Passing
pub mod Unknowing
