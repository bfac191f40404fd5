-- `upper_of`: the prefix's end, if it has one.
use mathlib.Core.Path.{refl, sym}
use Prim.Native.Nat.{ℕ}
use native.Mathlib.Omega.{arith}
use lib.ListN.{replicate}
use lib.Seq.{length-take-le}
use Rattle.keycode.specs.code.Codes.{key_bytes}
use Rattle.bitcask.proofs.engine.PrefixLaws.{end_within, raised_bytes}
use Rattle.mvcc.proofs.scan.BoundLaws.{upper_open, upper_raised}
use Rattle.mvcc.proofs.scan.prefix.upper_of.Goals as goal

pub slice_bounds-copy_into-end : goal.slice_bounds-copy_into-end
slice_bounds-copy_into-end c = let h = end_within c.args.prefix.now c.prefix_end.ensures _ c.in-Some.is in sym (length-take-le _ _ (omega arith))

pub copy_into-requires : goal.copy_into-requires
copy_into-requires c = let h = end_within c.args.prefix.now c.prefix_end.ensures _ c.in-Some.is in omega (arith, c.requires, length-take-le c.in-Some.end.keep c.args.prefix.now (omega arith))

pub bounds-bytes-keep : goal.bounds-bytes-keep
bounds-bytes-keep c = omega (arith, c.requires, end_within c.args.prefix.now c.prefix_end.ensures _ c.in-Some.is)

pub overflow_add-result : goal.overflow_add-result
overflow_add-result c = omega (arith, c.requires, end_within c.args.prefix.now c.prefix_end.ensures _ c.in-Some.is)

pub returns-in-None : goal.returns-in-None
returns-in-None c = let a = c.args in upper_open a.prefix.now c.prefix_end.ensures (replicate {A = ℕ} key_bytes 0) refl c.in-None.is

pub returns-in-Some : goal.returns-in-Some
returns-in-Some c =
    let a = c.args in let h = end_within c.args.prefix.now c.prefix_end.ensures _ c.in-Some.is in
    upper_raised a.prefix.now c.prefix_end.ensures c.copy_into.new.out c.copy_into.auto.out _ c.in-Some.is (omega (arith, c.requires))
    (raised_bytes _ a.prefix.now _ _ h c.requires c.copy_into.ensures.1)
