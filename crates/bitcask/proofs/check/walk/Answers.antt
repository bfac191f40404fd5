use Prim.Native.Nat.{ℕ}
use mathlib.Core.Path.{sym, subst}
use Rattle.bitcask.specs.keydir.Slots.{slots_of}
use Rattle.bitcask.proofs.check.TellLaws.{Walking, walking_start, walking_end, walking_cut, walking_wrong, walking_less, walking_early, walking_exact, seen_stands}
use Rattle.bitcask.proofs.check.walk.Goals as goal
use Rattle.bitcask.proofs.check.walk.Goals.{in-Early, in-Exact}

pub loop-e-init : goal.loop-e-init
loop-e-init c = let a = c.args in walking_start a.log.now a.used (slots_of a.slots.count a.slots.table.now)

pub returns-then-at-used : goal.returns-then-at-used
returns-then-at-used c = walking_end c.loop-e.invariant c.entry_from.ensures c.in_default.is c.if-at-used.true

pub returns-else-at-used : goal.returns-else-at-used
returns-else-at-used c = walking_cut c.loop-e.invariant c.entry_from.ensures c.in_default.is c.if-at-used.false

pub judge-requires : goal.judge-requires
judge-requires c = let a = c.args in ((seen_stands a.log.now a.used c.loop-e.at c.entry_from.ensures _ c.in-Some.is).near, c.requires)

pub returns-in-Wrong : goal.returns-in-Wrong
returns-in-Wrong c = walking_wrong c.loop-e.invariant c.entry_from.ensures _ c.in-Some.is c.judge.ensures c.in-Wrong.is

pub loop-e-smaller : goal.loop-e-smaller
loop-e-smaller c = walking_less c.loop-e.invariant c.entry_from.ensures _ c.in-Some.is c.judge.ensures _ c.past-at.ensures

pub loop-e-preserved : goal.loop-e-preserved
loop-e-preserved c =
    let i = c.loop-e.invariant in
    let P : ℕ → Type 0 = λ n. Walking c.args.log.now c.args.used (slots_of c.args.slots.count c.args.slots.table.now) c.past-at.result n in
    elim c.match-judge.branch [
      | in-Early w ↦ subst P (sym w.met-is) (walking_early i c.entry_from.ensures _ c.in-Some.is c.judge.ensures _ c.past-at.ensures w.in-Early.is)
      | in-Exact w ↦ subst P (sym w.met-is) (walking_exact i c.entry_from.ensures _ c.in-Some.is c.judge.ensures _ c.past-at.ensures w.in-Exact.is)
    ]
