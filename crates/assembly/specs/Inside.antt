-- what inner contracts cite, and no rule: a reader need not know it
-- the clip in the making, as words
pub mod Making
