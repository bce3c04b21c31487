pub mod Views
pub mod Answers
pub mod Machines
pub mod Catching
