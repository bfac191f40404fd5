-- The definitions of the yes/no on agreement, and what it promises.
pub mod Told
pub mod Promises
