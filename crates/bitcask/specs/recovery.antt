-- The definitions of recovery: the map, the entries of a log and what they leave, agreement, changes that wait beside a table, and what
-- opening promises.
pub mod Map
pub mod Recover
pub mod Agree
pub mod Waiting
pub mod Passing
pub mod Promises
