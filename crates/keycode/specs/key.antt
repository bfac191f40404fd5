-- The definitions of the six keys.
pub mod Keys
