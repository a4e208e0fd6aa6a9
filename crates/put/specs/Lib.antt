-- bytes put at a place of an output
pub mod Put
-- for inner contracts
pub mod Inside
