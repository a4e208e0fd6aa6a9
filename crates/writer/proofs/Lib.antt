-- what the call answers and leaves in the output
pub mod Answered
