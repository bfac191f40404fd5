-- The definitions of encoded keys by value.
pub mod Codes
