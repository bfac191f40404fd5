-- The laws of as-of.
pub mod PastLaws
pub mod Unique
