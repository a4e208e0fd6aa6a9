-- the clock's pass, step by step
pub mod Pass
-- the pass over the words of clips prints their sheet
pub mod Words
-- what is printed at each exit
pub mod Exits
