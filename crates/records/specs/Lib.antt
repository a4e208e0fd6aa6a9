-- a clip and a tag out of their words
pub mod Records
-- when two lists are the same
pub mod Same
-- the rules by computation
pub mod Examples
