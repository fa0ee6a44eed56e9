pub mod Mapping
pub mod Renaming
pub mod Keeps
pub mod Laws
