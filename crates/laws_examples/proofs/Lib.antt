mod WholeRuns
mod ScopeRows
mod BundleShape
mod NearMisses
mod AreaLawful
mod Unlawful
