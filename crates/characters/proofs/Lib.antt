-- what a byte that fits says
pub mod Byte
-- bytes that fit are characters
pub mod Whole
