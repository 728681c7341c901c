-- the bytes of a scene, and which identifiers may stand in it
pub mod SceneLaws
pub mod Search
pub mod CheckLaws
-- putting the bytes, and how a write ends
pub mod PutLaws
pub mod WriteLaws
-- no second answer meets a contract
pub mod Unique
-- a written scene is read as what it was written from
pub mod RecordsBack
pub mod ReadBack
pub mod CellsBack
pub mod MarksBack
-- and what was read is written in no more bytes
pub mod NoLonger
pub mod RoundTrip
-- the document's example, and each refusal
pub mod Examples
