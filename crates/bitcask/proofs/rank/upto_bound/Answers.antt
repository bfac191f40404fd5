-- `upto_bound` is the rank that the bound names.
use Rattle.bitcask.specs.keydir.Slots.{slots_of}
use Rattle.bitcask.proofs.read.RankLaws.{end_included, end_excluded, end_unbounded}
use Rattle.bitcask.proofs.rank.upto_bound.Goals as goal

pub returns-in-Included : goal.returns-in-Included
returns-in-Included c = end_included _ c.args.log.now c.args.key.now (slots_of c.args.count c.args.table.now) _ _ c.in-Included.is c.upto.ensures

pub returns-in-Excluded : goal.returns-in-Excluded
returns-in-Excluded c = end_excluded _ c.args.log.now c.args.key.now (slots_of c.args.count c.args.table.now) _ _ c.in-Excluded.is c.below.ensures

pub returns-in-Unbounded : goal.returns-in-Unbounded
returns-in-Unbounded c = end_unbounded _ c.args.log.now c.args.key.now c.args.table.now c.args.count c.in-Unbounded.is
