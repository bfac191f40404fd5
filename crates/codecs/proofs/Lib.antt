-- The laws of the six kinds of a field; what stands above cites them.
pub mod CodecLaws
pub mod SignLaws
pub mod FloatLaws
pub mod KindLaws
pub mod Utf8Laws
pub mod TextLaws
pub mod StateLaws
pub mod CastLaws
