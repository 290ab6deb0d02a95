pub mod Texts
pub mod Rest
pub mod Words
pub mod Printing
pub mod Ran
