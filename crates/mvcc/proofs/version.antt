-- The laws of what the records of a key say to a handle.
pub mod SeenLaws
