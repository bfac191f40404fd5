-- What each encoding promises.
pub mod Promises
