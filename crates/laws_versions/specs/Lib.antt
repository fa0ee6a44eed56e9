pub mod RunLaws
pub mod ShownLaws
pub mod ReadLaws
pub mod LogLaws
pub mod GoesOnLaws
pub mod Examples
