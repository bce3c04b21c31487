pub mod Conversing
pub mod Each
pub mod SessionOrder
pub mod Taking
pub mod Turns
