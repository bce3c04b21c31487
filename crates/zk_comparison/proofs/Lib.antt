pub mod Meant
pub mod Judged
pub mod Listed
pub mod Written
pub mod Reported
pub mod Seen
pub mod AllReported
