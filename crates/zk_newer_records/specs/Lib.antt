-- What contracts on folds cite.
pub use Rattle.zk_path.specs.Paths
pub mod Changes
pub mod Faults
pub mod Laws
pub mod NewerRecords
pub mod Reading
pub mod Folds
