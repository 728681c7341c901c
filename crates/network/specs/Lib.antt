-- what the public calls promise
pub mod Areas
pub mod Verdict
pub mod Numbers
pub mod Refined
pub mod Prepared
pub mod Ran
pub mod Handed
-- what the theorems say of them
pub mod Demand
pub mod Carries
pub mod Again
pub mod Chain
pub mod Made
-- what functions inside the crate promise
pub mod Inner
pub mod WorkAreas
