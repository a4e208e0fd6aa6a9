-- a byte and a text more, and the digits of a number
pub mod Laws
