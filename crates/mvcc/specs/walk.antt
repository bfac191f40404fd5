-- The definitions of a scan's walk.
pub mod Walks
