-- parser.rs: media_playlist_from_tags
pub mod Assembly
-- the words of a record
pub mod Words
-- what the code's values say in these words
pub mod Answers
-- worked examples
pub mod Examples
-- what inner contracts cite, and no rule
pub mod Inside
