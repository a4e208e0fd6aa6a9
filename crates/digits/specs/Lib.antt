-- numbers and lengths as text
pub mod Digits
-- by computation
pub mod Examples
