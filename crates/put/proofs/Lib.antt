-- bytes one behind the other, those that have room, and a lent tail
pub mod Putting
-- spans that do not lie within the text
pub mod Spans
