pub mod Deliveries
pub mod Hubs
pub mod Laws
pub mod Sorting
pub mod Outcomes
pub mod Reads
pub mod Replies
pub mod Resumptions
