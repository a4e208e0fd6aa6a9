-- how far each rule goes
pub mod Takes
-- a pair whose name is there
pub mod Name
-- names one after the other, with their sizes
pub mod Words
-- what is held under some names
pub mod Laid
-- and with one pair more
pub mod Inserted
-- a list, pair after pair
pub mod Walk
-- what a rule has taken
pub mod Taken
-- where a list's values come from
pub mod Source
-- a byte range in quotes, on its own
pub mod Alone
-- what was written is read back
pub mod Ahead
-- each rule with more text before it
pub mod Local
-- no second answer fits a contract
pub mod Only
