-- The definitions of a transaction's scan steps.
pub mod Bounds
pub mod Promises
pub mod Steps
