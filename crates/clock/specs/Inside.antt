-- what inner contracts cite, and no rule: a reader need not know it
-- a tick for any numbers
pub mod Ticks
