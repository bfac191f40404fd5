-- The laws of the store's records as pairs of bytes: what the calls' definitions say of a map of them.
pub mod OrderLaws
pub mod PairLaws
pub mod PlanLaws
pub mod EndLaws
pub mod FineLaws
pub mod SightLaws
pub mod ActiveLaws
pub mod RangeLaws
pub mod SeenLaws
pub mod SearchLaws
pub mod ReadLaws
pub mod StepLaws
pub mod ScanLaws
