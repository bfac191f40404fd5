-- The laws of get and scan step; what stands above cites them.
pub mod RankLaws
pub mod ScanLaws
pub mod ReadLaws
pub mod ShowLaws
pub mod Unique
