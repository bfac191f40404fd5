-- Runs of the store by what its public calls state, and what handles are to see.
pub mod history
pub mod records
pub mod Meaning
pub mod Views
pub mod Shown
pub mod Listed
