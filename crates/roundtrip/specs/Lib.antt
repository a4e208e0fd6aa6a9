-- what a list must be for its text to read back
pub mod Premises
-- what the round trip says
pub mod RoundTrip
-- the same by what the calls promise
pub mod ByCalls
-- and by what the face promises, in its numbers
pub mod ByFace
-- where a reading stops
pub mod Stops
-- the premises and the stopping place by computation
pub mod Examples
