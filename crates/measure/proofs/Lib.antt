-- what rule 9 says of spans
pub mod Rule
-- sizes are lengths
pub mod Sizes
-- what clips take at most, and leave
pub mod Bounds
-- what is left of a room
pub mod Rooms
-- what the call answers at each exit
pub mod Answered
