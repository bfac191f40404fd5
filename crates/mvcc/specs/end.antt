-- The definitions of how transactions end.
pub mod Plans
pub mod Promises
pub mod Ways
