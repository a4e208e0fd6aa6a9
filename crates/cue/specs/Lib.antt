-- what the program says
pub mod File
-- 01's own list, and lists that are refused
pub mod Examples
-- what inner contracts cite, and no rule
pub mod Inside
