-- The definitions of the table: words moved, slots and their words, the place of a key.
pub mod Words
pub mod Slots
pub mod Place
