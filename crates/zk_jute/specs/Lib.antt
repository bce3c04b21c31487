pub use Rattle.zk_path.specs.Paths
pub mod Faults
pub mod Laws
pub mod Reading
pub mod Archives
pub mod Packing
pub mod Values
