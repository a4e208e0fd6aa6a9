-- a pair, and names that begin within its name
pub mod Pairs
-- a list that begins within another
pub mod Leads
-- what is held of a list that meets another
pub mod Overlaid
-- a chain that goes on, and the pair behind blanks
pub mod Tests
-- the words of what is kept
pub mod Words
-- where nothing is kept
pub mod Nothing
-- a list that meets a chain; what is kept, renewed
pub mod Renewed
