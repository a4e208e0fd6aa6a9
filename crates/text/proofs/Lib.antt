-- the three questions: prefixes, runs, digits
pub mod Laws
-- stretches of places
pub mod Stretches
-- a rule again and again
pub mod Many
-- a way through alternatives
pub mod Chain
-- how far a rule goes
pub mod Takes
-- a rule with more text before it
pub mod Local
-- a rule where the bytes ahead are known
pub mod Ahead
-- the rows of RFC 3629
pub mod Utf8
-- spans, and a part that spells a word
pub mod Spans
-- a line that begins with no blank
pub mod Blanks
-- a text that was written line by line
pub mod Lines
-- these laws at work
pub mod LinesExample
-- what ends a line
pub mod Line
-- no second answer fits a contract
pub mod Only
-- a `?` that stops
pub mod Tried
