-- what a test of bytes says of its row
pub mod Rows
-- character after character
pub mod Chars
-- no second answer fits a contract
pub mod Only
