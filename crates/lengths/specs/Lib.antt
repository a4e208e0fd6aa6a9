-- parser.rs: float, duration_title_tag
pub mod Duration
-- IEEE 754: the nearest binary32
pub mod Binary32
-- what the code's answers say in these words
pub mod Answers
pub mod Examples
