pub mod Appending
pub mod HexBytes
pub mod QuotedBytes
