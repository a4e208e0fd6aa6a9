-- no second answer fits a contract
pub mod Only
