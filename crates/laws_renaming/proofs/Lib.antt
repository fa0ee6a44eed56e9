pub mod Expressions
pub mod Mapped
pub mod Renaming
pub mod Rows
