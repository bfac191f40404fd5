-- `take_del` does to the words what recovery's does.
use Rattle.host.proofs.TakeLaws.{found_among, del_takes}
use Rattle.host.specs.Table.{words_in}
use Rattle.host.proofs.opening.take_del.Goals as goal

pub leave-requires : goal.leave-requires
leave-requires c = let a = c.args in (found_among a.log.now (words_in a.table.now) a.count a.s c.key_of.ensures c.find-found.ensures, c.requires)

pub returns : goal.returns
returns c = let a = c.args in del_takes a.log.now (words_in a.table.now) a.count a.s c.key_of.ensures c.find-found.ensures a.end c.leave.ensures
