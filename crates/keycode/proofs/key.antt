-- The laws of the six keys; what stands above cites them.
pub mod PrefixKeys
pub mod DecodeLaws
pub mod KeyLaws
pub mod KeyOrder
