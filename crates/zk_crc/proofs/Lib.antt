pub mod Crcs
