-- The laws of get and resume.
pub mod ResumeLaws
pub mod ShowLaws
pub mod Unique
pub mod GetLaws
pub mod VersionLaws
