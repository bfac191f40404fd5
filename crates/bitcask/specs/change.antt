-- The definitions of what is appended: entries and lists of entries; Promises has what set and delete promise.
pub mod Append
pub mod Promises
