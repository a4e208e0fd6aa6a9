-- the front of a fraction's digits
pub mod Front
