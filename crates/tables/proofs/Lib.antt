-- every entry passes
pub mod Every
-- counts and indices that don't overflow
pub mod Records
-- words laid into a table, and read back
pub mod Sets
-- records laid one after the other
pub mod Laying
-- entries listed from an index on
pub mod Listed
-- chains of refusals
pub mod Refusals
