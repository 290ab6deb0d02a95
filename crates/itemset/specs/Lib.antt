-- Read Sets first, then Lists and Counting, then Laws.
pub mod Sets
pub mod Lists
pub mod Counting
pub mod Laws
