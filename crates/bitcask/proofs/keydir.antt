-- The laws of the table; what stands above cites them.
pub mod WordLaws
pub mod SlotLaws
pub mod HalveLaws
pub mod CountLaws
pub mod PlaceLaws
pub mod SortLaws
pub mod TableLaws
