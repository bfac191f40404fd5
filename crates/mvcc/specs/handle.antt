-- The definitions of handles.
pub mod Handles
