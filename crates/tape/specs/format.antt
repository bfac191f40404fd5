-- The definitions of a record, a request and the handle slots, in the order in which they build on each other.
pub mod Layout
pub mod Requests
pub mod Slots
