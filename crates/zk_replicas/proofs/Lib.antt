pub mod Keeping
pub mod Lent
pub mod Replicas
pub mod Unwatched
