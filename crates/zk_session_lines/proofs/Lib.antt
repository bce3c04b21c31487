pub mod Appended
pub mod Lifed
pub mod Rowed
