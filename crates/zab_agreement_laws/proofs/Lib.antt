pub mod AgreeEvents
pub mod AgreeRuns
pub mod Deliveries
pub mod FactRuns
pub mod OneOrder
pub mod Promises
pub mod WholeRuns
