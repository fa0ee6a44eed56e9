pub mod Causes
pub mod ToldBytes
