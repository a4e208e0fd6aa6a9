-- sums of lengths, the clock's rule
pub mod Lengths
-- 01's laws of moments and ticks, and a tick in 64 bits
pub mod Moments
-- the calls' answers, row by row
pub mod Calls
-- no second result fits
pub mod Only
-- from the code's results to the rules
pub mod Results
