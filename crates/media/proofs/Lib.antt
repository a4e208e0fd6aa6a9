-- where a step's words are laid
pub mod Fills
-- the steps, done from here
pub mod Passes
-- the call's own step
pub mod Steps
-- what is left to fill, laid from here
pub mod Filling
-- what the call answers at each exit
pub mod Answered
-- no second result fits
pub mod Only
-- the readers that 01 throws out
pub mod ThrownOut
-- tables of the most records are never too short
pub mod Most
-- what the call for the room answers, and that the reader needs just that
pub mod Rooms
