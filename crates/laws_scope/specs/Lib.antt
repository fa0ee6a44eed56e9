pub mod Right
pub mod TextOrder
pub mod Laws
