pub mod Digits
pub use Rattle.zk_format.specs.Spelling
pub use Rattle.zk_format.specs.Listings
pub use Rattle.zk_format.specs.Reports as ListReports
pub mod Promises
pub mod Reading
pub mod Lines
pub mod Reports
