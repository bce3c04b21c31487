-- The definitions that this crate's contracts cite.
pub mod Owning
pub mod Digests
pub mod Following
pub mod Stepping
pub use Rattle.zk_log.specs.Logs
pub use Rattle.zk_newer_records.specs.NewerRecords
pub mod Laws
pub mod Mending
pub mod NewerLogs
pub mod NewerTables
pub mod Reading
pub mod Telling
pub mod Walking
