-- `delete`: 13, the judgement, and then one tombstone.
use mathlib.Core.Path.{refl, sym, ◌∙◌}
use lib.ListN.{length}
use Rattle.bitcask.specs.entry.Entry.{del as del_entry}
use Rattle.bitcask.proofs.keydir.CountLaws.{count-within}
use Rattle.bitcask.proofs.recovery.AgreeLaws.{fit-sound}
use Rattle.std.proofs.lemmas.Result.{err_from_is_err_and}
use Rattle.bitcask.proofs.change.ChangeLaws.{change_bad, change_refused, change_room, change_done, judged_by_lem, count_fits}
use native.Mathlib.Omega.{arith}
use Rattle.bitcask.proofs.change.delete.Goals as goal

pub returns-then-not-fits : goal.returns-then-not-fits
returns-then-not-fits c = let a = c.args in change_bad a.log.now a.used.len a.table.now (del_entry a.key.now) (sym c.fits.ensures ∙ c.if-not-fits.true)

pub overflow_sub-log : goal.overflow_sub-log
overflow_sub-log c = let a = c.args in (fit-sound (length a.log.now) a.used.len (length a.table.now) (sym c.fits.ensures ∙ c.if-not-fits.false)).within

pub overflow_sub-table : goal.overflow_sub-table
overflow_sub-table c = count_fits c.args.table.now _ c.count-n.ensures

pub append_del-mark-requires : goal.append_del-mark-requires
append_del-mark-requires c =
    let a = c.args in
    let w = change_room a.log.now a.used.len a.table.now (del_entry a.key.now) (sym c.fits.ensures ∙ c.if-not-fits.false) _
    (judged_by_lem a.log.now a.used.len a.table.now (del_entry a.key.now) _ 0 _ _ c.count-n.ensures c.room_after-room.ensures refl c.judged.ensures) c.in_ok-judged.was in
    (omega (arith, w.0), w.1, omega (arith, count-within a.table.now, c.count-n.ensures))

pub returns-in_err-judged : goal.returns-in_err-judged
returns-in_err-judged c =
    let a = c.args in
    let p = err_from_is_err_and c.from_residual.result c.from_residual.ensures.1 in
    rw (p.1, p.2) (change_refused a.log.now a.used.len a.table.now (del_entry a.key.now) (sym c.fits.ensures ∙ c.if-not-fits.false) _
    (judged_by_lem a.log.now a.used.len a.table.now (del_entry a.key.now) _ 0 _ _ c.count-n.ensures c.room_after-room.ensures refl c.judged.ensures) _ c.in_err-judged.was)

pub returns : goal.returns
returns c =
    let a = c.args in
    change_done a.log.now a.used.len a.table.now (del_entry a.key.now) (sym c.fits.ensures ∙ c.if-not-fits.false) _
    (judged_by_lem a.log.now a.used.len a.table.now (del_entry a.key.now) _ 0 _ _ c.count-n.ensures c.room_after-room.ensures refl c.judged.ensures) c.in_ok-judged.was
    _ _ _ c.count-n.ensures refl c.append_del-mark.ensures
