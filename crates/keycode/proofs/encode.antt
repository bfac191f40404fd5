-- The laws of the encodings; what stands above cites them.
pub mod EncodeLaws
