pub mod MadeLines
pub mod Paths
pub mod Relined
pub mod Spliced
pub mod Renumbered
pub mod Laws
