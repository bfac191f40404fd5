-- The definitions of one log entry, in the order in which they build on each other.
pub mod Length
pub mod Entry
pub mod Reading
