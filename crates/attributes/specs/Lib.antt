-- parser.rs: key_value_pairs and what it is made of
pub mod Pairs
-- what is held of a list, as words
pub mod Held
-- parser.rs: extmap
pub mod ExtMap
-- what the code's answers say in these words
pub mod Answers
pub mod Inside
pub mod Examples
