-- some digits of a fraction in front of the rest
pub mod Front
-- digits of a fraction, three at a turn
pub mod Fraction
