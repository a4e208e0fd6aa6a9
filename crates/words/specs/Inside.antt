-- what contracts inside the crate cite, and no rule: a reader need not know it
-- a number as bytes
pub mod Word
