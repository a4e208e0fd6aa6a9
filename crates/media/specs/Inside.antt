-- what inner contracts cite, and no rule: a reader need not know it
-- what a pass comes to, and a step of it
pub mod Passes
