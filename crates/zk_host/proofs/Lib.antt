pub mod Delivering
pub mod NoClosings
