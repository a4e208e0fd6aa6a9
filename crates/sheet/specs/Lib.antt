-- what the program prints
pub mod Sheet
-- 01's own sheet, and a refusal
pub mod Examples
-- what inner contracts cite, and no rule
pub mod Inside
