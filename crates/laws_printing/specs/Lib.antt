pub mod Pieces
pub mod Text
pub mod Numbered
pub mod Named
pub mod Laws
pub mod Bundles
pub mod Examples
pub mod BundleExamples
