-- The definitions of what a write and the unversioned set share.
pub mod Lays
pub mod Appends
