-- The definitions of the key layer, in the order in which they build on each other; Promises has what each public call promises.
pub mod Tests
pub mod Limits
pub mod Refusals
pub mod Order
pub mod Number
pub mod Buffer
pub mod Strings
pub mod Prefix
pub mod Promises
pub mod key
pub mod encode
pub mod code
