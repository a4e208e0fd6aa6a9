-- alternatives as the code tries them
pub mod Tried
-- how tags move by k places
pub mod Moves
-- what each known tag brings to the laws of all
pub mod Rows
-- the first row whose text is there is the first that holds
pub mod Matched
-- which tags can hold at all, by one byte of theirs
pub mod Letters
-- how a line begins: where none but the URI can hold, and where the EXTINF does
pub mod Begins
-- how far a step goes
pub mod Takes
-- which alternative took a tag
pub mod Numbered
-- the fewest bytes of a URI and of an unknown tag
pub mod Least
-- a step with more text before it
pub mod Local
-- no second answer fits a contract
pub mod Only
