-- The laws of the host's functions.
pub mod AnswerLaws
pub mod ByteLaws
pub mod TableLaws
pub mod TakeLaws
pub mod WalkLaws
pub mod OpenLaws
pub mod Unique
