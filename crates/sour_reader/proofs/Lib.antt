pub mod Reserved
pub mod Counted
pub mod Loop
pub mod Whole
pub mod FirstFault
