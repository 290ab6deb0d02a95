pub mod Found
pub mod Computed
pub mod Recalled
pub mod Grouping
