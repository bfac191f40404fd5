-- The laws of the key layer; what stands above cites them.
pub mod Basics
pub mod OrderLaws
pub mod NumberLaws
pub mod EightLaws
pub mod BufferLaws
pub mod StringLaws
pub mod SortLaws
pub mod WriteLaws
pub mod PrefixLaws
pub mod Unique
