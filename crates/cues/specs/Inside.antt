-- what inner contracts cite, and no rule: a reader need not know it
-- the reader's pass, line by line
pub mod Pass
