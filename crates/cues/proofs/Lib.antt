-- the pass, line by line
pub mod Pass
-- what is said at each exit
pub mod Exits
