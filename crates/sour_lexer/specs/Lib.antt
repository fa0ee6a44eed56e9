pub mod Placed
pub mod Front
pub mod TokensOf
pub mod TokenList
pub mod Read
