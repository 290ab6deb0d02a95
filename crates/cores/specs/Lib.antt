-- Read Scopes and Answers first: what each search gives. Rows and Founds are how a list is made.
pub mod Scopes
pub mod Answers
pub mod Rows
pub mod Founds
