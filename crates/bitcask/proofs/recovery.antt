-- The laws of recovery; what stands above cites them.
pub mod MapLaws
pub mod ViewLaws
pub mod ItemLaws
pub mod CutLaws
pub mod FoldLaws
pub mod AgreeLaws
pub mod WalkLaws
pub mod OpenLaws
pub mod HoldLaws
pub mod EnterLaws
pub mod SettleLaws
pub mod TakeLaws
pub mod PassLaws
pub mod GrowLaws
pub mod Unique
