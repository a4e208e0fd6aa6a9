-- blocks, byte by byte
pub mod Blocks
-- a text in pieces
pub mod Pieces
