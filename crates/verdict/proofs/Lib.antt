-- laws of a row, whatever its text
pub mod Rows
-- which rows can be there at all, by one byte of theirs
pub mod Letters
-- how far a row and a line go
pub mod Takes
-- the verdict, line by line
pub mod FirstSaid
-- .. and byte by byte, where nothing is said
pub mod Passed
-- no second result fits
pub mod Only
