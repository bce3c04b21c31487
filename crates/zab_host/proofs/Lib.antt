pub mod Growth
pub mod Outside
pub mod Failing
pub mod Leading
