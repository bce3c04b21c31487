pub mod Back
pub mod Adoptions
pub mod Living
pub mod Numbers
