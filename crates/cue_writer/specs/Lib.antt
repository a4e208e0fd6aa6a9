-- what inner contracts cite, and no rule
pub mod Inside
