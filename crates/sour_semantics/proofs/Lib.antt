pub mod Places
pub mod Runs
pub mod Environments
pub mod Heaps
pub mod Anchors
