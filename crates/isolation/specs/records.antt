-- The definitions that make pairs of bytes of the store's records.
pub mod Stored
pub mod Scans
