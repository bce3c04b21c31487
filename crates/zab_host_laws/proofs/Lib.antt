mod Forgetting
mod Bouncing
mod OneRun
mod Others
mod Adopting
pub mod HostRuns
mod Agreeing
mod HostsAgreeing
mod Composition
mod Fits
mod Growing
mod Numbers
mod Prefixes
mod Releases
mod Tags
mod TakenSyncs
mod Syncs
