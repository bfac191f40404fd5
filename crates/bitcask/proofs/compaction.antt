-- The laws of compaction and of the counts; what stands above cites them.
pub mod LiveLaws
pub mod MoveLaws
pub mod PackLaws
pub mod CompactLaws
pub mod CompactUnique
pub mod GrownLaws
