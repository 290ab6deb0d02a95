pub mod Members
pub mod Collected
pub mod Rows
pub mod Bits
pub mod Counts
