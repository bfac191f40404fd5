-- The definitions of what a begin reads.
pub mod Active
