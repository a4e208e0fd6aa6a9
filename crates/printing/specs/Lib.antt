-- the bytes of each line
pub mod Lines
-- what a program says at its end
pub mod Said
pub mod Examples
