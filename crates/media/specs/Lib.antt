-- the public call
pub mod Calls
-- the most records that a reading can need
pub mod Most
-- what the code's answers say in these words
pub mod Answers
-- 01, the starred edges
pub mod Edges
-- the smallest texts of two clips, and of a tag
pub mod Examples
-- what inner contracts cite, and no rule
pub mod Inside
