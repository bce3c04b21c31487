pub mod CatchingUp
pub mod Outcomes
pub mod Prefixes
pub mod Pushes
pub mod Steps
pub mod Trees
