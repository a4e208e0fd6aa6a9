-- lengths, moments, ticks
pub mod Clock
-- what each call answers
pub mod Calls
-- what the code's answers say in these words
pub mod Answers
-- 01's worked example, both sides of each limit
pub mod Examples
-- what inner contracts cite, and no rule
pub mod Inside
