-- Document 01's bench readings P1 to P11.
pub mod Bench
