-- What the contracts of this crate cite.
pub mod Chains
pub mod Continuing
pub mod Joints
pub mod Names
pub mod Orders
pub mod LogFiles
pub mod IntactLogs
