-- The laws of what a begin reads.
pub mod ActiveLaws
pub mod AgreedLaws
