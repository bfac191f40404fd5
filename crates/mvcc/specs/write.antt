-- The definitions of the writes: what each test answers and how they follow each other, and what the calls promise.
pub mod Writes
pub mod Promises
