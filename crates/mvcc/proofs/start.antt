-- The laws of begin.
pub mod PlanLaws
pub mod StartLaws
pub mod Unique
