-- what the program says
pub mod Shown
-- 01's own file, and files that are refused
pub mod Examples
-- what inner contracts cite, and no rule
pub mod Inside
