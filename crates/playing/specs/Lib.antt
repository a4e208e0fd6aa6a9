-- which clip is on at a tick
pub mod Playing
-- what the code's answers say in these words
pub mod Answers
-- what inner contracts cite, and no rule
pub mod Inside
