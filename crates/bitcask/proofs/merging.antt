-- The laws of merging; what stands above cites them.
pub mod LookLaws
pub mod MergeLaws
pub mod PartLaws
pub mod OutLaws
pub mod PutLaws
pub mod FlushLaws
