-- what inner contracts cite, and no rule: a reader need not know it
-- the file of a table's words
pub mod Words
