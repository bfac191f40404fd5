-- The definitions, a module for each part.
pub mod entry
pub mod keydir
pub mod merging
pub mod recovery
pub mod change
pub mod read
pub mod compaction
pub mod check
pub mod engine
