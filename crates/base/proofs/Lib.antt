pub mod Reading
pub mod Tells
pub mod Finds
pub mod Writing
pub mod Tests
pub mod Stops
pub mod Numbered
