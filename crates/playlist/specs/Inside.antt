-- the parts of a text, by their place in the tables
pub mod Texts
