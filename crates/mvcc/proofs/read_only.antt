-- The laws of the read-only begin and of status.
pub mod ReadingLaws
pub mod StatusLaws
pub mod Unique
