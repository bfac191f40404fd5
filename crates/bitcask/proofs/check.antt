-- The laws of the yes/no on agreement.
pub mod MemberLaws
pub mod LastLaws
pub mod WalkLaws
pub mod AheadLaws
pub mod TellLaws
pub mod VerdictLaws
