-- The definitions of get and resume.
pub mod Promises
