-- `show_pair` lays a pair, or 13 where there is no room for it.
use native.Mathlib.Omega.{arith}
use mathlib.Core.Path.{sym}
use lib.Seq.{length-take-le}
use Rattle.tape.proofs.ScanLaws.{over-value, over-room, pair-laid}
use Rattle.tape.proofs.scan.show_pair.Goals as goal

pub returns-then-value-gt-VALUE_ROOM : goal.returns-then-value-gt-VALUE_ROOM
returns-then-value-gt-VALUE_ROOM c = let a = c.args in over-value a.out.now a.n a.kept.now a.klen a.value.now c.if-value-gt-VALUE_ROOM.true c.put_plain.ensures

pub returns-then-out-n : goal.returns-then-out-n
returns-then-out-n c = let a = c.args in over-room a.out.now a.n a.kept.now a.klen a.value.now c.if-value-gt-VALUE_ROOM.false c.if-out-n.true c.put_plain-then-out-n.ensures

pub slice_bounds-put_record-end : goal.slice_bounds-put_record-end
slice_bounds-put_record-end c = let a = c.args in sym (length-take-le a.klen a.kept.now c.requires.1)

pub put_record-requires : goal.put_record-requires
put_record-requires c = let a = c.args in (omega arith, omega (arith, length-take-le a.klen a.kept.now c.requires.1), omega arith)

pub returns : goal.returns
returns c = let a = c.args in pair-laid a.out.now a.n a.kept.now a.klen a.value.now c.if-value-gt-VALUE_ROOM.false c.requires.1 c.requires.2 c.if-out-n.false c.put_record.ensures
