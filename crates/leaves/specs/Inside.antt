-- what contracts inside the crate cite, and no rule: a reader need not know it
-- digits and offsets, and where they end
pub mod Ends
