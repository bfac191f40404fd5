-- `prefix_span`: from the prefix to its end, if it has one.
use mathlib.Core.Path.{sym}
use lib.ListN.{length-set}
use lib.Seq.{length-take-le}
use Rattle.bitcask.specs.engine.Views.{shown}
use Rattle.bitcask.proofs.engine.PrefixLaws.{end_within, span_open, span_raised, raised_bytes}
use native.Mathlib.Omega.{arith}
use Rattle.bitcask.proofs.engine.view.View.prefix_span.Goals as goal

pub slice_bounds-copy_into-end : goal.slice_bounds-copy_into-end
slice_bounds-copy_into-end c = let h = end_within c.args.prefix.now c.prefix_end.ensures _ c.in-Some.is in sym (length-take-le _ _ (omega arith))

pub copy_into-requires : goal.copy_into-requires
copy_into-requires c =
    let h = end_within c.args.prefix.now c.prefix_end.ensures _ c.in-Some.is in
    omega (arith, c.requires, length-take-le c.in-Some.end.keep c.args.prefix.now (omega arith))

pub bounds-bytes-keep : goal.bounds-bytes-keep
bounds-bytes-keep c = omega (arith, c.requires, end_within c.args.prefix.now c.prefix_end.ensures _ c.in-Some.is)

pub overflow_add-n : goal.overflow_add-n
overflow_add-n c = omega (arith, c.requires, end_within c.args.prefix.now c.prefix_end.ensures _ c.in-Some.is)

pub slice_bounds-bytes-end : goal.slice_bounds-bytes-end
slice_bounds-bytes-end c = simp length-set (omega (arith, c.requires, c.copy_into.auto.out, end_within c.args.prefix.now c.prefix_end.ensures _ c.in-Some.is))

pub slice_bounds-range-end : goal.slice_bounds-range-end
slice_bounds-range-end c = sym (length-take-le _ _ (simp length-set (omega (arith, c.requires, c.copy_into.auto.out, end_within c.args.prefix.now c.prefix_end.ensures _ c.in-Some.is))))

pub returns-in-None : goal.returns-in-None
returns-in-None c = let a = c.args in let v = a.self.now in span_open a.prefix.now c.prefix_end.ensures (shown v) c.in-None.is c.range.ensures

pub returns-in-Some : goal.returns-in-Some
returns-in-Some c =
    let a = c.args in let v = a.self.now in let h = end_within a.prefix.now c.prefix_end.ensures _ c.in-Some.is in
    span_raised a.prefix.now c.prefix_end.ensures (shown v) _ c.in-Some.is
    (raised_bytes _ a.prefix.now _ _ h c.requires c.copy_into.ensures.1) c.range-in-Some.ensures
