-- the pass, step by step
pub mod Pass
-- the table, record by record
pub mod Laying
-- no second result fits
pub mod Only
