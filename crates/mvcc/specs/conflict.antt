-- The definitions of a write's search for conflicts.
pub mod Conflicts
