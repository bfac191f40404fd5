-- The definitions of slots' keys deleted.
pub mod Cuts
pub mod Plans
