-- why a rule fails
pub mod Why
-- nom's combinators
pub mod Nom
pub mod Many
-- RFC 3629
pub mod Utf8
-- parser.rs: Util, Basic tags
pub mod Util
pub mod BasicTags
-- spans of a text
pub mod Spans
-- a text made of lines
pub mod Lines
-- what the code's answers say in these words
pub mod Answers
pub mod Examples
