-- fields and sizes, as the rule has them
pub mod Weighed
-- the clock's pass, record by record
pub mod Pass
-- the refusals, one after the other
pub mod Answered
-- the bytes of a number in a field
pub mod Bytes
