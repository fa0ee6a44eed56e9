pub mod Words
pub mod Area
pub mod AreaSteps
pub mod AreaRuns
pub mod AreaShapes
pub mod AreaLaws
pub mod Bill
pub mod BillRuns
