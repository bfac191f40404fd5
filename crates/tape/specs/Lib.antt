-- The definitions of the tape, in the order in which they build on each other.
pub mod format
pub mod Answers
pub mod Turns
pub mod Scans
pub mod Promises
