-- `compact` tests the sizes, then the room, and then moves the entries.
use mathlib.Core.Path.{◌≡◌, sym, ◌∙◌}
use native.Mathlib.Omega.{arith}
use Rattle.std.specs.Prelude.{Some, None}
use Rattle.keycode.specs.declared.refusal.Refusal.TheVariants.{LogFull}
use Rattle.std.proofs.lemmas.Result.{err_from_is_err_and}
use Rattle.bitcask.proofs.keydir.CountLaws.{count-within}
use Rattle.bitcask.proofs.compaction.CompactLaws.{compact_unfit, compact_large, compact_full, compact_room, compact_done}
use Rattle.bitcask.proofs.compaction.compact.Goals as goal

pub returns-then-not-fits : goal.returns-then-not-fits
returns-then-not-fits c = let a = c.args in compact_unfit a.log.now a.used.len a.table.now a.target.now (sym c.fits.ensures ∙ c.if-not-fits.true)

pub returns-then-room-gt-MAX_LOG : goal.returns-then-room-gt-MAX_LOG
returns-then-room-gt-MAX_LOG c = let a = c.args in compact_large a.log.now a.used.len a.table.now a.target.now (sym c.fits.ensures ∙ c.if-not-fits.false) c.if-room-gt-MAX_LOG.true

pub returns-in_err-ok_or : goal.returns-in_err-ok_or
returns-in_err-ok_or c =
    let a = c.args in
    let e : c.live_upto.result ≡ None = grind arith in
    let q : c.in_err-ok_or.field-0.0 ≡ LogFull = grind arith in
    let p = err_from_is_err_and c.from_residual.result c.from_residual.ensures.1 in
    rw (p.1, p.2, q) (compact_full a.log.now a.used.len a.table.now a.target.now (sym c.fits.ensures ∙ c.if-not-fits.false) c.if-room-gt-MAX_LOG.false c.count-n.ensures c.live_upto.ensures e)

pub move_all-len-requires : goal.move_all-len-requires
move_all-len-requires c =
    let a = c.args in
    let e : c.live_upto.result ≡ Some c.in_ok-ok_or.field-0 = grind arith in (
      rw c.count-n.ensures (count-within a.table.now),
      compact_room a.log.now a.used.len a.table.now a.target.now (sym c.fits.ensures ∙ c.if-not-fits.false) c.if-room-gt-MAX_LOG.false c.count-n.ensures c.live_upto.ensures _ e,
      c.if-room-gt-MAX_LOG.false,
    )

pub returns : goal.returns
returns c =
    let a = c.args in
    let e : c.live_upto.result ≡ Some c.in_ok-ok_or.field-0 = grind arith in
    compact_done a.log.now a.used.len a.table.now a.target.now (sym c.fits.ensures ∙ c.if-not-fits.false) c.if-room-gt-MAX_LOG.false c.count-n.ensures c.live_upto.ensures _ e
    (rw c.count-n.ensures (count-within a.table.now)) c.move_all-len.ensures

pub invariant_of-live_upto : goal.invariant_of-live_upto
invariant_of-live_upto c = record { within = omega (arith, count-within c.args.table.now, c.count-n.ensures) }
