pub mod FileParts
pub mod Blocks
pub mod BookFiles
pub mod Bytes
pub mod Torn
mod Disks
pub mod Logs
mod Readers
mod LogReading
mod Zeros
mod OldFiles
mod Flips
mod Parts
mod Prefixes
mod Creations
mod Extended
mod Failures
mod Fronts
mod Joined
mod Lacking
mod Lists
mod Readings
pub mod Recoveries
pub mod Standing
pub mod Unique
