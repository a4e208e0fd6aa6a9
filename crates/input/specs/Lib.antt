-- bytes as a number
pub mod Numbers
-- what is taken from a buffer that holds it, and how a stop holds
pub mod Held
pub mod Examples
