-- most clips' texts by their words
pub mod Words
