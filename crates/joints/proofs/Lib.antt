pub mod Words
pub mod Trips
pub mod Plans
pub mod Closing
pub mod Stripping
pub mod Kept
