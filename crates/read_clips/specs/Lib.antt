-- a clip's length, the total, and an answer once a list is read
pub mod Lists
