-- parser.rs: contains_master_tag
pub mod Verdict
-- the public call, and what every call on a text asks first
pub mod Calls
-- what the code's answers say in these words
pub mod Answers
pub mod Examples
pub mod Inside
