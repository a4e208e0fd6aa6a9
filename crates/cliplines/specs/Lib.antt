-- for inner contracts
pub mod Inside
