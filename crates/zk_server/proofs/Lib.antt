-- Lemmas.
mod Results
pub mod Inputs
pub mod Taking
pub mod Hearing
pub mod Acting
pub mod Turning
pub mod Settling
pub mod Schedules
pub mod Linking
pub mod LinkWriting
pub mod LinkedSchedules
pub mod LinkedTurning
