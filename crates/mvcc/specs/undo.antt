-- The definitions of a transaction's writes undone.
pub mod Plans
pub mod Undo
