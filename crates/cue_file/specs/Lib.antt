-- the file: fields, rows, records, URIs, trailer
pub mod Format
-- what the writer's call answers
pub mod Write
-- what the reader's call answers
pub mod Read
-- 01's example byte by byte, both sides of each limit
pub mod Examples
