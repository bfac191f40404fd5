-- The laws of a record's bytes, of requests and of the handle slots; what stands above cites them.
pub mod LayoutLaws
pub mod RequestLaws
pub mod SlotLaws
