-- The laws of a write's search for conflicts.
pub mod SearchLaws
