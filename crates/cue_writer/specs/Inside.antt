-- what inner contracts cite, and no rule: a reader need not know it
-- what is weighed before the first byte is put
pub mod Measure
-- the clock's pass, record by record
pub mod Pass
