-- The laws of what a write and the unversioned set share; what stands above cites them.
pub mod SizeLaws
pub mod LayLaws
pub mod AllLaws
pub mod StepLaws
pub mod OneLaws
pub mod PairLaws
pub mod ThreeLaws
pub mod GrowLaws
pub mod Unique
