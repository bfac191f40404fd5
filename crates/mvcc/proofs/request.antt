-- The laws that the transaction calls cite.
pub mod LookLaws
pub mod CheckLaws
pub mod ListLaws
pub mod FitLaws
pub mod RecordLaws
