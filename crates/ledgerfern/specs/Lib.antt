-- each answer's numbers
pub mod Numbers
-- a head from its numbers
pub mod Heads
-- the writer, for a head in numbers
pub mod Write
-- what the code's answers say in these words
pub mod Answers
pub mod Examples
