pub mod ClosesLaws
pub mod ServesLaws
