-- The laws of rows; what stands above cites them.
pub mod CheckLaws
pub mod EncodeLaws
pub mod AnswerLaws
pub mod ReadLaws
pub mod FieldLaws
pub mod RowLaws
