-- The law over runs of calls. What a single call gives stands in the crate `cores` (Scopes, Answers).
pub mod Runs
