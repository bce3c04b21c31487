pub mod Commands
pub mod Ports
pub mod Sockets
