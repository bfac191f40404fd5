-- The laws of payloads.
pub mod PayloadLaws
