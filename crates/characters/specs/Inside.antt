-- what contracts inside the crate cite, and no rule: a reader need not know it
-- a byte judged by the three before it
pub mod Fits
