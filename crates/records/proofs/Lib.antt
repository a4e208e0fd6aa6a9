-- decode of encode
pub mod Back
-- no second result fits
pub mod Only
-- the same list is an equal one
pub mod Same
