use Prim.Native.Nat.{◌/◌}
use mathlib.Core.Path.{refl}
use lib.ListN.{length}
use Rattle.bitcask.specs.keydir.Slots.{slot_words}
use Rattle.bitcask.specs.keydir.Place.{used_at}
use Rattle.bitcask.proofs.keydir.HalveLaws.{halving_start, halving_up, halving_down}
use Rattle.bitcask.proofs.keydir.CountLaws.{used-free, used_some, count_end}
use Rattle.bitcask.proofs.keydir.slots.count.Goals as goal

pub loop-low-init : goal.loop-low-init
loop-low-init c = halving_start (used_at c.args.table.now) (length c.args.table.now / slot_words)

pub loop-low-preserved-then-table-mid-eq0 : goal.loop-low-preserved-then-table-mid-eq0
loop-low-preserved-then-table-mid-eq0 c = halving_down c.loop-low.invariant c.loop-low-test.true (used-free c.args.table.now _ c.if-table-mid-eq0.true) refl

pub loop-low-preserved : goal.loop-low-preserved
loop-low-preserved c = halving_up c.loop-low.invariant c.loop-low-test.true (used_some c.args.table.now _ c.if-table-mid-eq0.false) refl

pub returns : goal.returns
returns c = count_end c.args.table.now c.loop-low.invariant c.loop-low-test.false
