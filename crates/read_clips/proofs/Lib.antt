-- the words of the clips, from the first on
pub mod Words
-- the table that the reader's call leaves
pub mod Table
