use mathlib.Core.Path.{◌∙◌, ap}
use native.Mathlib.Omega.{arith}
use Rattle.std.specs.Slice.Iter.{chunks_exact_rest, chunks_exact_size}
use Rattle.std.specs.declared.slice.ChunksExact.{ChunksExact}
use Prim.Native.Nat.{ℕ}
use Rattle.mvcc.proofs.payload.PayloadLaws.{gather_start, gather_turn, gather_end}
use Rattle.mvcc.proofs.payload.gathered.Goals as goal

pub loop-version-init : goal.loop-version-init
loop-version-init c =
    let e = c.into_iter-version-iterator.ensures.into_iter_gives in
    let k = c.chunks_exact-version-items.ensures in
    record {
      size = ap (λ (i : ChunksExact ℕ). chunks_exact_size i) e ∙ k.size;
      same = gather_start (ap (λ (i : ChunksExact ℕ). chunks_exact_rest i) e ∙ k.rest) c.fresh-handle.ensures;
    }

pub get_number-requires : goal.get_number-requires
get_number-requires c = omega (arith, c.in-Some.ensures.steps.1.1, c.loop-version.invariant.size)

pub loop-version-preserved : goal.loop-version-preserved
loop-version-preserved c =
    let w = c.in-Some.ensures.steps in
    record {
      size = w.0 ∙ c.loop-version.invariant.size;
      same = gather_turn _ _ _ w.1.0 (w.1.1 ∙ c.loop-version.invariant.size) c.get_number.ensures c.with-handle.ensures c.loop-version.invariant.same;
    }

pub returns : goal.returns
returns c = gather_end _ _ (omega (arith, c.in-None.ensures.steps.1.0, c.loop-version.invariant.size)) c.loop-version.invariant.same
