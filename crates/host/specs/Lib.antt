-- The definitions of the host's functions: an answer in one number, and what each function promises.
pub mod Answers
pub mod Table
pub mod Taking
pub mod Promises
