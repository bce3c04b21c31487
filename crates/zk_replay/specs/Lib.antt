-- What the contracts of this crate cite.
pub use Rattle.zk_path.specs.Paths
pub mod Bases
pub mod Drafts
pub mod Restoring
pub mod Rules
pub mod Windows
pub mod Owning
pub mod Sums
pub mod Tallies
pub mod Touching
