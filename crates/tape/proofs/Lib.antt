-- The laws of the tape: what a bad record is, the answers' bytes, the commands, the turn, two results that are one, and that a tape is a
-- run of the store.
pub mod AdmitLaws
pub mod AnswerLaws
pub mod CallLaws
pub mod ScanLaws
pub mod TurnLaws
pub mod MeantLaws
pub mod UniqueSteps
pub mod Unique
pub mod RunLaws
pub mod StartLaws
