-- the cursor
pub mod Starts
-- a lent table
pub mod Table
-- what the code's answers say in these words
pub mod Answers
-- 01's worked example, both sides of each edge
pub mod Examples
