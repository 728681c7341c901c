-- what the calls promise
pub mod RefineExport
pub mod PrepareExport
pub mod RunExport
pub mod ReadExport
pub mod WriteExport
-- inside the crate
pub mod Inner
-- what the theorems say of them
pub mod ReadBack
pub mod RefineDemand
pub mod RoundTripExports
pub mod RunChain
pub mod RunPromises
