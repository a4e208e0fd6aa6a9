-- what is said at the exits of a program
pub mod Exits
