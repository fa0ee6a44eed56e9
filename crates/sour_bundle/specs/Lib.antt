pub mod ProgramBundle
pub mod Entry
