-- The definitions of begin, in the order in which they build on each other.
pub mod Plan
pub mod Begins
pub mod Promises
