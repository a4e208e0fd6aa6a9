-- the window's rule
pub mod Window
-- a clip's window by that of the clip before it
pub mod After
-- what the code's answers say in these words
pub mod Answers
-- the rule by computation
pub mod Examples
pub mod Inside
