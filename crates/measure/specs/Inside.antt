-- spans that a text within the limit can hold
pub mod Below
-- how many bytes each thing takes
pub mod Sizes
-- what is left of a room
pub mod Room
