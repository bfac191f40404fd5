-- `append_del` finds the key's place, lays the tombstone and takes its slot out.
use Rattle.bitcask.specs.entry.Entry.{del as del_entry}
use Rattle.bitcask.proofs.change.AppendLaws.{found_among, appended-is, del_becomes}
use Rattle.bitcask.proofs.append.append_del.Goals as goal

pub leave-n-requires : goal.leave-n-requires
leave-n-requires c = (found_among c.args.log.now c.args.key.now c.args.table.now _ _ c.find-found.ensures, c.requires.2)

pub returns : goal.returns
returns c =
    let a = c.args in
    appended-is a.log.now a.table.now a.mark.used a.mark.count (del_entry a.key.now) _ _ _ _ c.put_del-used.ensures.1 c.put_del-used.ensures.0
    (del_becomes a.log.now a.table.now a.mark.used a.mark.count a.key.now _ _ _ c.find-found.ensures c.leave-n.ensures)
