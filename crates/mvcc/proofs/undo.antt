-- The laws of a transaction's writes undone.
pub mod UndoKeyLaws
pub mod UndoStepLaws
pub mod UndoTurnLaws
pub mod UndoAgreeLaws
