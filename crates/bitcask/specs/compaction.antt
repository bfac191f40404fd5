-- The definitions of compaction and of the counts, and what the two calls promise.
pub mod Compaction
pub mod Promises
