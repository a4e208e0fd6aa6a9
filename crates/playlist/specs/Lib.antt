-- playlist.rs: the lines of a playlist, and their bytes
pub mod Lines
-- the public call
pub mod Calls
-- what the code's answers say in these words
pub mod Answers
-- worked examples
pub mod Examples
-- for inner contracts
pub mod Inside
