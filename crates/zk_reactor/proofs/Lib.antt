pub mod SocketLaws
