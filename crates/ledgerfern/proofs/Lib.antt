-- a head's numbers and back
pub mod HeadNumbers
-- the numbers say all that the answer says
pub mod Faithful
-- no second result fits
pub mod Only
-- what the writer's call says
pub mod Writes
-- the room that is said is the room that the reader needs
pub mod Rooms
