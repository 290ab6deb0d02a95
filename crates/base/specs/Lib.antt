-- Read Outcomes first, then Refusals; Sheets is how sheets of words are read, Places how buffers are written.
pub mod Outcomes
pub mod Refusals
pub mod Sheets
pub mod Readers
pub mod Places
