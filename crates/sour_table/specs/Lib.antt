pub mod Reader
pub mod Table
