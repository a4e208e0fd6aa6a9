-- where each word of a record stands
pub mod Layout
-- 01's numbers given back
pub mod Refusal
-- a table's counts, words and entries
pub mod Table
-- what the code's answers say in these words
pub mod Answers
-- words, counts and flags by computation
pub mod Examples
