-- what most clips are
pub mod Plain
