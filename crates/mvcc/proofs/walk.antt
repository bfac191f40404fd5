-- The laws of a scan's walk.
pub mod UpLaws
pub mod WalkLaws
