-- What the functions' proofs and other crates use, from whole numbers up to the bits of a length. Assumes nothing.
pub mod Sides  -- digits before and after a point, and the length that they make
pub mod Kept  -- what the code keeps of them
pub mod Takes  -- how far the rules of a length go
pub mod Ends  -- where a length ends, and whether it has too many digits
pub mod Local  -- they do the same with more text before them
pub mod Ahead  -- what they make of known bytes ahead
pub mod Only  -- no second answer meets their contracts
pub mod Closest  -- a fraction's nearest whole number: how it is found, within a half, a tie to the even one
pub mod Rounded  -- the bits of a rounded fraction, in either format, worked out at another scale
pub mod NoneNearer  -- no number of a format is nearer than the rounded one, and a tie is even
pub mod Scaled  -- a length moved up to the top of its word, and its bits from there
pub mod Seconds  -- the laws of a length's bits: they stand for the nearest binary32, fit 32 bits, are no NaN's, not subnormal
