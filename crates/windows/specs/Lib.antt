-- the pass
pub mod Windows
-- the table
pub mod Table
-- what the code's answers say in these words
pub mod Answers
-- both by computation
pub mod Examples
