-- what contracts inside the crate cite, and no rule: a reader need not know it
-- a clip that the table holds whole, and those of its words that are zeros
pub mod Held
