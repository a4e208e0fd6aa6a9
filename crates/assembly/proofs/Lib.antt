-- the clip in the making, group by group
pub mod Groups
-- how many words records have
pub mod Records
-- what was stored is read back
pub mod ReadBack
-- what a tag makes of each part of a state
pub mod Parts
-- how many clips and tags a reading counts
pub mod Counts
-- no second head fits
pub mod Only
