-- The laws of the writes; what stands above cites them.
pub mod AllowLaws
pub mod Unique
pub mod MapLaws
pub mod WriteLaws
