-- what contracts of the code cite, and no rule: a list that is read with what is kept is the list of `attributes`' rules
pub mod Inside
