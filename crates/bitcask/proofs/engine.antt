-- The laws of rows, of their places, of ranges, and of what is appended and ended; what stands above cites them.
pub mod RowLaws
pub mod SpotLaws
pub mod WalkLaws
pub mod RangeLaws
pub mod LookLaws
pub mod SetLaws
pub mod TombLaws
pub mod EndLaws
pub mod EndedLaws
pub mod SpanLaws
pub mod PrefixLaws
pub mod AgainLaws
pub mod ExtendLaws
pub mod LeftLaws
pub mod PairLaws
pub mod StayLaws
pub mod ViewLaws
