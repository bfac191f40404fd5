-- The definitions of payloads.
pub mod Payloads
