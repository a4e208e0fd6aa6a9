-- what a function asks that makes no test
pub mod Room
