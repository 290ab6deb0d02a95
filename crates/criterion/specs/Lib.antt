-- Read Meaning first, then Cores, then Laws; Recall is what a memory keeps, Over and Held what the two adapters mean.
pub mod Meaning
pub mod Cores
pub mod Laws
pub mod Examples
pub mod Recall
pub mod Over
pub mod Held
pub mod Groups
