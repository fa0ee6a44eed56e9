pub mod Effect
pub mod Onward
pub mod Laws
