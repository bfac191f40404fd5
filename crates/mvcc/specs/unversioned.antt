-- The definitions of the unversioned calls.
pub mod Promises
