-- a number in so many bytes: written and read back, read and written back
pub mod Numbers
-- the same of a row of fields
pub mod Rows
-- how many bytes the parts of a file are, and some clips and then others
pub mod Sizes
-- what the writer's checks say
pub mod Kept
-- what the reader's checks say
pub mod Judged
-- the file of a list holds the list, and a file is the file of its list
pub mod File
-- the pass over all clips
pub mod Pass
-- writer and reader undo each other
pub mod Undo
-- a file's list as a table, which written is the file again
pub mod Again
