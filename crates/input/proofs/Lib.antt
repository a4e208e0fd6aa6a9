-- bytes that a buffer holds
pub mod Laws
-- reads one behind the other
pub mod Came
