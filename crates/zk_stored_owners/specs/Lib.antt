pub use Rattle.zk_path.specs.Paths
pub mod StoredOwners
