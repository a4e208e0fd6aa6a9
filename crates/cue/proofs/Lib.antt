-- the writer's call over the words of clips that were read
pub mod Words
-- what is said at each exit
pub mod Exits
