-- the number in two bytes and in four
pub mod Numbers
-- the rules, way out by way out
pub mod Laws
-- what a result of `judged` tells
pub mod Results
-- no second result fits
pub mod Only
