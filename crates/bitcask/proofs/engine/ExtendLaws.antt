-- Logs in which nothing but the bytes behind the used ones was written to: one run laid there, and one after the other. Assumes nothing.
use Prim.Native.Nat.{ℕ, ◌+◌, ◌-◌, ◌≤◌}
use mathlib.Core.Path.{◌≡◌, refl, sym, ap, ◌∙◌}
use mathlib.Core.List.{List, ◌++◌}
use native.Mathlib.Omega.{arith}
use lib.ListN.{length, take, drop, length-append}
use lib.Seq.{take-take, drop-drop, drop_at, length-take-le}
use Rattle.keycode.specs.Buffer.{put}
use Rattle.keycode.proofs.BufferLaws.{length-put}
use Rattle.bitcask.proofs.entry.EntryLaws.{laid-before}
use Rattle.bitcask.specs.engine.Extends.{Extends}

pub extends_none : (log : List ℕ) (used : ℕ) → used ≤ length log → Extends log used log used
extends_none log used h = record { long = refl; onward = (omega arith, h); below = refl; past = refl }

laid-past : (d : List ℕ) (at : ℕ) (xs : List ℕ) → at ≤ length d → drop (at + length xs) (put d at xs) ≡ drop (at + length xs) d
unfolding put
laid-past d at xs h = drop_at (take at d ++ xs) (drop (at + length xs) d) (at + length xs) (length-append (take at d) xs ∙ ap (λ (n : ℕ). n + length xs) (length-take-le at d h))

pub extends_put : (log : List ℕ) (used : ℕ) (xs : List ℕ) → used + length xs ≤ length log → Extends log used (put log used xs) (used + length xs)
extends_put log used xs h =
    record {
      long = length-put log used xs h;
      onward = (omega arith, h);
      below = laid-before log used xs (omega arith);
      past = laid-past log used xs (omega arith);
    }

module _ {a b c : List ℕ} {i j k : ℕ} (v : Extends a i b j) (w : Extends b j c k) where
  below_all : take i c ≡ take i a
  below_all =
      let h : i ≤ j = v.onward.0 in
      sym (take-take i j c h) ∙ ap (λ (r : List ℕ). take i r) w.below ∙ take-take i j b h ∙ v.below

  past_all : drop k c ≡ drop k a
  past_all =
      let e : j + (k - j) ≡ k = omega (arith, w.onward) in
      w.past ∙ ap (λ (n : ℕ). drop n b) (sym e) ∙ sym (drop-drop (k - j) j b) ∙ ap (λ (r : List ℕ). drop (k - j) r) v.past
      ∙ drop-drop (k - j) j a ∙ ap (λ (n : ℕ). drop n a) e

  pub extends_more : Extends a i c k
  extends_more =
      record {
        long = w.long ∙ v.long;
        onward = (omega (arith, v.onward, w.onward), omega (arith, v.long, w.onward));
        below = below_all;
        past = past_all;
      }
