-- The definitions of rows of typed fields; Promises has what the two calls promise.
pub mod Promises
pub mod Inner
pub mod Spelling
