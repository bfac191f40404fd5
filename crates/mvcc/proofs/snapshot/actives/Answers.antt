-- `actives` walks all keys of the tag.
use Rattle.bitcask.specs.engine.Views.{shown}
use Rattle.bitcask.proofs.engine.PrefixLaws.{prefix_within}
use Rattle.mvcc.specs.request.Ranges.{active_prefix}
use Rattle.mvcc.proofs.snapshot.ActiveLaws.{actives_seen}
use Rattle.mvcc.proofs.snapshot.actives.Goals as goal

pub gather-requires : goal.gather-requires
gather-requires c = let a = c.args in (prefix_within (shown a.view.now) active_prefix c.open_span-span.ensures)

pub returns : goal.returns
returns c = let a = c.args in actives_seen (shown a.view.now) a.start _ c.open_span-span.ensures c.gather.ensures
