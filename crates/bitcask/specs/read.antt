-- The definitions of get and scan step: ranks and bounds; Promises has what each call promises.
pub mod Ranks
pub mod Promises
