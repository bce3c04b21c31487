pub mod Counts
pub mod Laying
pub mod Recounts
pub mod Slashless
