-- what contracts inside the crate cite, and no rule: a reader need not know it
-- one pair more
pub mod Insert
