-- The definitions of the read-only begin and of status.
pub mod Answers
pub mod Promises
