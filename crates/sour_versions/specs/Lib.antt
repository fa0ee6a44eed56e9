pub mod History
pub mod Fits
pub mod CallLog
pub mod Notes
pub mod Entering
pub mod VersionRun
pub mod GoesOn
pub mod MayShow
