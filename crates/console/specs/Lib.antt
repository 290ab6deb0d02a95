-- Read Text first (the lines), then Response (from input bytes to output bytes); Reports is what private functions print.
pub mod Text
pub mod Response
pub mod Reports
pub mod Kinds
pub mod Runs
pub mod Views
pub mod Examples
