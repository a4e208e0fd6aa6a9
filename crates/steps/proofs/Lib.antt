-- which lines are taken at once, by how they begin
pub mod MostLines
-- no second answer fits a contract
pub mod Only
