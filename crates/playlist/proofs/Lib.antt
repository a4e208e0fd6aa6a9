-- lines one by one, and those that may be missing
pub mod Lines
-- the groups of a playlist, one behind the other
pub mod Groups
-- no second result fits
pub mod Only
