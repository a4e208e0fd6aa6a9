-- what digits write
pub mod Number
-- no second answer fits a contract
pub mod Only
