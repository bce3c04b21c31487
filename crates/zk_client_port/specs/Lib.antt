-- The statements of the laws.
pub mod Asking
pub mod Demands
pub mod Execution
pub mod Flushing
pub mod FrameLaws
pub mod Laws
pub mod Listings
pub mod Outputs
pub mod Ports
pub mod Results
pub mod Serving
pub mod Sessions
pub mod Turns
pub mod Orders
