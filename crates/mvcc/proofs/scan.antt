-- The laws of a transaction's scan steps.
pub mod BoundLaws
pub mod QuietLaws
pub mod AgreedLaws
pub mod StepLaws
pub mod NameLaws
pub mod SightLaws
pub mod GroupLaws
pub mod ShowLaws
pub mod UserLaws
pub mod Unique
