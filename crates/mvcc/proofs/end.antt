-- The laws of how transactions end.
pub mod EndLaws
pub mod EarlyLaws
pub mod CloseLaws
pub mod FinishLaws
pub mod Unique
pub mod RollbackUnique
