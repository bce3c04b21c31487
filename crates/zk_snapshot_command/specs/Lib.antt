pub use Rattle.zk_path.specs.Paths
pub mod DirectoryOwners
pub mod Parts
pub mod SnapshotCommands
