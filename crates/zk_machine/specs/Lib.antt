pub mod Changes
pub mod ChangeLaws
pub mod Undoing
pub mod Preimages
pub mod Machines
pub mod Tables
pub mod Restoring
pub mod Refusals
