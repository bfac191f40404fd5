-- The laws of histories, of what the store keeps of them, and of the calls on the store's records.
pub mod Standing
pub mod EventLaws
pub mod FactLaws
pub mod StoredLaws
pub mod ViewLaws
pub mod ConflictLaws
pub mod KeepLaws
pub mod MapLaws
pub mod EffectLaws
pub mod ScanLaws
pub mod StepLaws
pub mod RunLaws
pub mod FewLaws
