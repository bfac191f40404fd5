-- The meaning of transactions; the store's part in it; the store's records and the calls on them.
pub mod History
pub mod Store
pub mod Records
pub mod Calls
pub mod Run
