-- Lemmas.
mod Asked
mod Results
mod Schedules
mod Serving
mod Settling
mod Turning
