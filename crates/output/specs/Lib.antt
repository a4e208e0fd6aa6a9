-- what waits after a byte and after a text
pub mod Waiting
-- what an output holds
pub mod Held
-- what a call says that puts bytes
pub mod Puts
-- the parts of texts and a full buffer by computation
pub mod Examples
