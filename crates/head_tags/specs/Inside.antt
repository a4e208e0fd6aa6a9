-- what contracts inside the crate cite, and no rule: a reader need not know it
-- what the code's answers say in the words of the rules
pub mod Answers
