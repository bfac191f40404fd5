-- The laws of what is appended; what stands above cites them.
pub mod AppendLaws
pub mod ChangeLaws
pub mod Unique
