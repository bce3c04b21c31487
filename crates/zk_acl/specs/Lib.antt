pub use Rattle.zk_path.specs.Paths
pub mod Access
pub mod Digests
pub mod Keeping
