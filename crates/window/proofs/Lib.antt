-- the chain, clip by clip
pub mod Chain
-- what the code has in hand at each way out
pub mod Laws
-- no second result fits
pub mod Only
