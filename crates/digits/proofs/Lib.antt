-- What writers and readers of numbers use. Assumes nothing.
pub mod Number  -- a number's digits: one more by ten, how many, the value that they write
pub mod Length  -- a length's digits: those of its fraction, and all of them
pub mod Loops  -- what the two counting loops know
