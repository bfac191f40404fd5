-- The definitions of as-of.
pub mod Answers
pub mod Promises
