-- The laws of the unversioned calls; what stands above cites them.
pub mod GetLaws
pub mod SetLaws
pub mod Unique
pub mod MapLaws
