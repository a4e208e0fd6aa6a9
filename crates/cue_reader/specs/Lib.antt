-- what the code's answers say in the words of the rules
pub mod Answers
