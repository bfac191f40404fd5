-- The table of document 01's bench readings.
pub mod BenchTable
