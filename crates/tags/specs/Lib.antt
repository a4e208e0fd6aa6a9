-- parser.rs: media_playlist_tag, media_segment_tag
pub mod Tags
-- what the code's answers say in these words
pub mod Answers
-- worked examples
pub mod Examples
