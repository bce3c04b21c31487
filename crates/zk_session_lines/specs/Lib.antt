-- What the contracts of this crate cite.
pub mod Appending
pub mod RecordLines
pub mod RowObjects
pub mod Rows
