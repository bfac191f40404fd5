-- `tomb_at` asks whether the key lies in the entries and a tombstone behind them, and lays it.
use mathlib.Core.Path.{refl}
use Rattle.bitcask.proofs.engine.EndLaws.{tomb_out, tomb_tight, tomb_done}
use native.Mathlib.Omega.{arith}
use Rattle.bitcask.proofs.engine.ending.tomb_at.Goals as goal

pub returns-then-at-from : goal.returns-then-at-from
returns-then-at-from c = let a = c.args in (tomb_out a.log.now a.at a.s c.key_at-from.ensures.0 refl c.if-at-from.true, c.requires.0)

pub returns-then-log-at : goal.returns-then-log-at
returns-then-log-at c = let a = c.args in (tomb_tight a.log.now a.at a.s c.key_at-from.ensures.0 refl c.if-at-from.false c.if-log-at.true, c.requires.0)

pub returns : goal.returns
returns c =
    let a = c.args in
    (tomb_done a.log.now a.at a.s c.key_at-from.ensures.0 refl c.if-at-from.false c.if-log-at.false _ _ c.tomb_of.ensures (omega arith), c.if-log-at.false)
