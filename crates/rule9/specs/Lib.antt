-- rule 9 of the writer
pub mod Rule9
-- the rule by computation
pub mod Examples
pub mod Inside
