-- The definitions of what the records of a key say to a handle.
pub mod Seen
