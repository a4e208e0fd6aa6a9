-- runs of tags, and one pass over the clips
pub mod Runs
-- what a table that keeps rule 9 has
pub mod Kept
-- a clip without flags
pub mod Zeros
-- no second result fits
pub mod Only
