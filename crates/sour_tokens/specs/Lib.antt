pub mod Byte
pub mod Symbol
pub mod Token
