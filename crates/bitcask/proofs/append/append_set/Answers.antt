-- `append_set` finds the key's place, lays the entry and puts its slot in.
use mathlib.Core.List.{◌++◌}
use Rattle.bitcask.specs.entry.Entry.{set as set_entry}
use Rattle.bitcask.proofs.change.AppendLaws.{found_among, appended-is, set_becomes}
use Rattle.bitcask.proofs.append.append_set.Goals as goal

pub enter-n-requires : goal.enter-n-requires
enter-n-requires c = (found_among c.args.log.now c.args.key.now c.args.table.now _ _ c.find-found.ensures, c.requires.2)

pub returns : goal.returns
returns c =
    let a = c.args in
    appended-is a.log.now a.table.now a.mark.used a.mark.count (set_entry a.key.now (a.head.now ++ a.body.now)) _ _ _ _ c.put_set-used.ensures.1 c.put_set-used.ensures.0
    (set_becomes a.log.now a.table.now a.mark.used a.mark.count a.key.now a.head.now a.body.now _ _ _ c.find-found.ensures c.of_entry-slot.ensures c.enter-n.ensures)
