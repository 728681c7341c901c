-- cells by place, by row and column; the first empty and the first changed one; how many regions and cells
pub mod CellLaws
pub mod Searches
-- no second answer meets a contract
pub mod Unique
