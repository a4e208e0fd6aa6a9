-- eight bytes at once
pub mod Eight
