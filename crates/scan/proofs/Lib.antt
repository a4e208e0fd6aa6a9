-- a set of bytes
pub mod Sets
