-- what is kept of the lists that were read, and when it is true of a text
pub mod Kept
-- what the code's answers say in these words
pub mod Answers
