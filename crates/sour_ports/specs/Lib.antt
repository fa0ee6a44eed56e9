pub mod Cause
pub mod Told
pub mod MemorySource
pub mod MemorySink
