pub mod Effects
pub mod Onward
pub mod Steps
