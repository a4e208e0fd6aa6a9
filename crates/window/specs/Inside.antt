-- what contracts inside the crate cite, and no rule: a reader need not know it
-- where a chain that leads to a clip may begin
pub mod Chain
