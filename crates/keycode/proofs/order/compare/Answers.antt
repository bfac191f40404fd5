use Prim.Native.Nat.{ℕ, ◌*◌, ◌/◌}
use mathlib.Core.Path.{◌≡◌, refl, sym, ap, ap₂, ◌∙◌}
use mathlib.Core.List.{[]}
use lib.ListN.{length, take, drop, length-append}
use lib.Seq.{length-take-le}
use native.Mathlib.Omega.{arith}
use Rattle.std.proofs.Common.{rules}
use Rattle.std.proofs.lemmas.Slice.Zip.{zip_turn, zip_end}
use Rattle.keycode.specs.Order.{compare_bytes, compare_nat, and_then}
use Rattle.keycode.proofs.OrderLaws.{nat_same, nat_decides, then_same, slice_same, compare_cut}
use Rattle.keycode.proofs.EightLaws.{eights_decide, eights_same}
use Rattle.keycode.proofs.order.compare.Goals as goal

pub loop-p-init : goal.loop-p-init
loop-p-init c = refl

pub returns-then-v-w : goal.returns-then-v-w
returns-then-v-w c =
    let n = c.min-n.result in let a = c.args.a.now in let b = c.args.b.now in
    let z = zip_turn c.as_chunks.result.0.now c.as_chunks-2.result.0.now c.loop-p.yielded c.into_iter-p-iterator.result c.loop-p.p-iterator c.next.new.self _ (search rules) (search rules) (search rules) _ c.in-Some.is c.next.ensures.steps in
    let o = c.loop-p.invariant ∙ eights_decide a b (λ j. (c.type_inv.a j).fits) (λ j. (c.type_inv.b j).fits) n c.min-n.ensures _ z.0 c.as_chunks.ensures.front_len c.as_chunks.ensures.front c.as_chunks-2.ensures.front (z.2 []) (z.3 []) c.from_be_bytes-v.ensures c.from_be_bytes-w.ensures c.if-v-w.true in
    sym (compare_cut a b n c.min-n.ensures ∙ ap (λ x. and_then x (compare_nat (length a) (length b))) o ∙ nat_decides _ _ _ c.if-v-w.true ∙ sym (c.cmp.ensures ∙ nat_same _ _))

pub loop-p-preserved : goal.loop-p-preserved
loop-p-preserved c =
    let n = c.min-n.result in let a = c.args.a.now in let b = c.args.b.now in
    let z = zip_turn c.as_chunks.result.0.now c.as_chunks-2.result.0.now c.loop-p.yielded c.into_iter-p-iterator.result c.loop-p.p-iterator c.next.new.self _ (search rules) (search rules) (search rules) _ c.in-Some.is c.next.ensures.steps in
    c.loop-p.invariant ∙ eights_same a b (λ j. (c.type_inv.a j).fits) (λ j. (c.type_inv.b j).fits) n c.min-n.ensures _ z.0 c.as_chunks.ensures.front_len c.as_chunks.ensures.front c.as_chunks-2.ensures.front (z.2 []) (z.3 []) c.from_be_bytes-v.ensures c.from_be_bytes-w.ensures c.if-v-w.false
    ∙ ap (λ (k : ℕ). compare_bytes (drop (k * 8) (take n a)) (drop (k * 8) (take n b))) (sym (length-append c.loop-p.yielded _))

pub returns : goal.returns
returns c =
    let n = c.min-n.result in let a = c.args.a.now in let b = c.args.b.now in
    let ka : length (take n a) ≡ n = length-take-le n a (omega arith) in
    let kb : length (take n b) ≡ n = length-take-le n b (omega arith) in
    let r : c.as_chunks.result.1.now ≡ drop (n / 8 * 8) (take n a) = c.as_chunks.ensures.back ∙ ap (λ (k : ℕ). drop (k / 8 * 8) (take n a)) ka in
    let t : c.as_chunks-2.result.1.now ≡ drop (n / 8 * 8) (take n b) = c.as_chunks-2.ensures.back ∙ ap (λ (k : ℕ). drop (k / 8 * 8) (take n b)) kb in
    let z = zip_end c.as_chunks.result.0.now c.as_chunks-2.result.0.now c.loop-p.yielded c.into_iter-p-iterator.result c.loop-p.p-iterator c.next.new.self _ (search rules) (search rules) (search rules) c.in-None.is c.next.ensures.steps in
    let i : length c.loop-p.yielded ≡ n / 8 = omega (arith, z, c.as_chunks.ensures.front_len, c.as_chunks-2.ensures.front_len, ka, kb) in
    let o : compare_bytes (take n a) (take n b) ≡ c.cmp-2.result =
    c.loop-p.invariant ∙ ap (λ (k : ℕ). compare_bytes (drop (k * 8) (take n a)) (drop (k * 8) (take n b))) i
    ∙ sym (c.cmp-2.ensures ∙ slice_same _ _ ∙ ap₂ compare_bytes r t) in
    sym (compare_cut a b n c.min-n.ensures ∙ ap₂ and_then o (sym (c.cmp-3.ensures ∙ nat_same _ _)) ∙ sym (c.then.ensures ∙ then_same c.cmp-2.result c.cmp-3.result))
