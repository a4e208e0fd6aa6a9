-- what the call says: a refusal or none
pub mod Leave
-- for inner contracts
pub mod Inside
