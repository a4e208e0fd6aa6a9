-- what contracts inside the crate cite, and no rule: a reader need not know it
-- the rows by one byte of theirs
pub mod Letters
-- where nothing is said
pub mod Quiet
