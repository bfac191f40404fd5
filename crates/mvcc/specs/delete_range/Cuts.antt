-- What a change leaves of a log, as the promises of the ends say it. Assumes nothing.
pub use Rattle.bitcask.specs.engine.Extends.{Extends}
