-- The definitions that the transaction calls share, in the order in which they build on each other.
pub mod Ranges
pub mod Looks
pub mod Checks
pub mod Lists
pub mod Given
