-- the last number that passes
pub mod Last
-- the last moment of a tick, and its way through 64 bits
pub mod Moment
-- the pair that a moment falls in
pub mod Pairs
-- the calls' answers, row by row
pub mod Calls
-- what the answer has to do with the clock's
pub mod Agrees
-- the ticks that the code has in hand
pub mod InHand
-- no second result fits
pub mod Only
-- worked examples
pub mod Examples
