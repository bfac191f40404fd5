-- The laws of encoded keys by value.
pub mod CodeLaws
