-- what contracts inside the crate cite, and no rule: a reader need not know it
-- what most lines are
pub mod Common
-- what the code's answers say in these words
pub mod Answers
-- worked examples
pub mod Examples
