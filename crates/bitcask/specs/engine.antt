-- The definitions of the door: rows, the mark that a store is entered with, the places of rows, ranges, and what is appended.
pub mod Rows
pub mod Marks
pub mod Spots
pub mod Ranges
pub mod Walks
pub mod Sets
pub mod Endings
pub mod Prefixes
pub mod Extends
pub mod Judging
pub mod Views
pub mod Stores
