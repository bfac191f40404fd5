-- The laws of one log entry; what stands above cites them.
pub mod LengthLaws
pub mod ReadingLaws
pub mod EntryLaws
