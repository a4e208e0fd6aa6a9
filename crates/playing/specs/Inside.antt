-- what inner contracts cite, and no rule: a reader need not know it
-- the last moment of a tick, and the clip that it falls in
pub mod Moment
