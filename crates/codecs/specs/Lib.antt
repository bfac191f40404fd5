-- The definitions of the six kinds of a field, in the order in which they build on each other.
pub mod Denials
pub mod Signs
pub mod Total
pub mod Utf8
pub mod States
pub mod Kinds
