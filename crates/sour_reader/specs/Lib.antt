pub mod Given
pub mod Reserved
pub mod Room
pub mod Heading
pub mod Told
