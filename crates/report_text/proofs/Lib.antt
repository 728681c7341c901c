-- classes, lines and their lengths
pub mod ClassLaws
pub mod LineLaws
pub mod Adding
pub mod Short
-- what the verdict and the reading say of the report
pub mod Verdicts
pub mod Refinements
pub mod Readings
pub mod Reporting
-- the class rule on the report itself, from whichever side a pair was stated
pub mod Letters
pub mod Directions
-- no second answer meets a contract
pub mod Unique
-- the document's examples
pub mod Examples
