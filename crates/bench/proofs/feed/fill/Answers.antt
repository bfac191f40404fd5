-- What `fill` has filled and what the next read puts behind it are one beginning of the tape.
use Rattle.std.proofs.Common.{◌≡◌, ℕ, ◌+◌, ◌≤◌, List, ◌++◌, rules, length, take, sym, ap, ◌∙◌, subst, length-take-le}
use Rattle.std.proofs.lemmas.List.{take-append-le}
use Rattle.std.proofs.Math.Seq.{take-append-add}
use Rattle.std.specs.Io.KnownBytes.{Consumes}
use Rattle.std.proofs.KnownBytes.{Consumes-trans}
use borrow.Rule.Slice.PartMut.{put_mid, post_of}
use Rattle.bench.proofs.feed.fill.Goals as goal

-- a beginning that stayed, and what was put behind it
take-put_mid_more : (a k n : ℕ) (xs ys : List ℕ) → a ≤ length xs → n ≤ length ys → take (a + n) (put_mid a k xs ys) ≡ take a xs ++ take n ys
take-put_mid_more a k n xs ys within fits =
    let front : length (take a xs) ≡ a = length-take-le a xs within in
    let joined = rw front at (take-append-add (take a xs) (ys ++ post_of a k xs) n) in
    joined ∙ ap (λ l. take a xs ++ l) (take-append-le n ys _ fits)

pub loop-n-preserved : goal.loop-n-preserved
loop-n-preserved g c =
    let more = c.in_ok-more.ensures in
    let joined = take-put_mid_more _ _ _ _ _ c.loop-n.invariant.within more.bound.0 in
    record {
      keeps_length = search rules;
      within = search rules;
      consumed = subst (Consumes _ _) (sym joined) (Consumes-trans _ _ _ _ _ c.loop-n.invariant.consumed more.bytes.0);
    }
