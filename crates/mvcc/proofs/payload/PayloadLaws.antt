-- Laws of the first edition's payloads: what is written is read back, and what each reader and writer answers. Assumes nothing.
use Prim.Native.Nat.{ℕ, zero, suc, ◌+◌, ◌*◌, ◌/◌, ◌%◌, ◌<◌, ◌≤◌}
use mathlib.Core.Path.{◌≡◌, refl, sym, ap, ◌∙◌}
use mathlib.Core.Bool.{Bool, true, false}
use mathlib.Core.List.{List, [], ◌∷◌, ◌++◌}
use native.Mathlib.Omega.{arith}
use native.Mathlib.Numerals.{add-one}
use lib.ListN.{length, take, drop, get_or, length-append, length-take, drop_of_length-le}
use lib.Seq.{take_at, drop_at, drop-cons}
use borrow.Author.Tests.{ne_eqb, le-leb, lt-leb}
use Rattle.std.specs.Prelude.{Some, None, Ok, Err}
use Rattle.keycode.specs.Limits.{max_open}
use Rattle.keycode.specs.Number.{be, num}
use Rattle.keycode.specs.Buffer.{put}
use Rattle.keycode.specs.declared.refusal.Refusal.TheVariants.{TooManyOpen, BadStore}
use Rattle.keycode.proofs.Basics.{nope}
use Rattle.keycode.proofs.NumberLaws.{num-be, length-be}
use Rattle.keycode.proofs.BufferLaws.{Laying, lay-front, lay-more, lay_end, lay-room}
use Rattle.mvcc.specs.declared.handle.Handle.{Handle}
use Rattle.mvcc.specs.declared.payload.Stored.TheVariants.{Value, Gone}
use Rattle.mvcc.specs.handle.Handles.{rising, set_of, sound_handle, handle_of, with_version, with_all}
use Rattle.mvcc.specs.payload.Payloads.{value_at, ReadsBack, Versions, version_in, set_bytes, versions_of, set_in, value_bytes, value_in, first, set_for}
use Rattle.mvcc.proofs.handle.HandleLaws.{made_all, made_sound}

-- ---- read after write

pub set_long : (vs : List ℕ) → length (set_bytes vs) ≡ 8 * length vs
unfolding set_bytes
set_long [] = refl
set_long (v ∷ vs) = simp (length-append, length-be) (omega (arith, set_long vs))

versions-back : (vs : List ℕ) → Versions vs → versions_of (length vs) (set_bytes vs) ≡ vs
unfolding set_bytes versions_of
versions-back [] b = refl
versions-back (v ∷ vs) b =
    rw (take_at (be 8 v) (set_bytes vs) 8 (length-be 8 v), drop_at (be 8 v) (set_bytes vs) 8 (length-be 8 v), num-be 8 v (b 0), versions-back vs (λ i. b (suc i)))

pub first_reads : ReadsBack first
unfolding version_in set_in value_in value_bytes
first_reads = record {
  version = λ v h. rw (length-be 8 v, num-be 8 v h);
  set = λ vs b.
      let l : length (set_bytes vs) ≡ 8 * length vs = set_long vs in
      let q : length (set_bytes vs) / 8 ≡ length vs = omega arith in
      let m : length (set_bytes vs) % 8 ≡ 0 = omega arith in
      rw (m, q, versions-back vs b);
  value = λ v. elim v as (λ k. value_at (first.write_value k) (first.read_value (first.write_value k)) ≡ Some k) [ Some x ↦ refl | None ↦ refl ];
}

-- ---- one version, one value

module _ (b : List ℕ) where
  pub version-bad : (length b ≡ 8 → ⊥) → None ≡ version_in b
  unfolding version_in
  version-bad h = rw (ne_eqb (length b) 8 h)

  pub version_read : (v : ℕ) → length b ≡ 8 → v ≡ num b → Some v ≡ version_in b
  unfolding version_in
  version_read v h e = rw (e, h)

pub value_none : (b : List ℕ) → length b < 1 → None ≡ value_in b
unfolding value_in
value_none [] h = refl
value_none (x ∷ b) h = absurd (omega arith)

pub value_some : (b : List ℕ) → 1 ≤ length b → get_or b 0 0 ≡ 1 → Some (Value 1) ≡ value_in b
unfolding value_in
value_some [] h e = absurd (omega arith)
value_some (zero ∷ b) h e = absurd (omega arith)
value_some (suc zero ∷ b) h e = refl
value_some (suc (suc t) ∷ b) h e = absurd (omega arith)

pub value_gone : (b : List ℕ) → length b ≡ 1 → get_or b 0 0 ≡ 0 → Some Gone ≡ value_in b
unfolding value_in
value_gone [] h e = absurd (omega arith)
value_gone (zero ∷ []) h e = refl
value_gone (zero ∷ y ∷ b) h e = absurd (omega arith)
value_gone (suc t ∷ b) h e = absurd (omega arith)

pub value-other : (b : List ℕ) → 1 ≤ length b → (get_or b 0 0 ≡ 1 → ⊥) → (get_or b 0 0 ≡ 0 → ⊥) → None ≡ value_in b
unfolding value_in
value-other [] h f g = refl
value-other (zero ∷ b) h f g = absurd (g refl)
value-other (suc zero ∷ b) h f g = absurd (f refl)
value-other (suc (suc t) ∷ b) h f g = refl

pub value-long : (b : List ℕ) → 2 ≤ length b → (get_or b 0 0 ≡ 1 → ⊥) → None ≡ value_in b
unfolding value_in
value-long [] h f = refl
value-long (zero ∷ []) h f = absurd (omega arith)
value-long (zero ∷ y ∷ b) h f = refl
value-long (suc zero ∷ b) h f = absurd (f refl)
value-long (suc (suc t) ∷ b) h f = refl

-- a value starts within its payload
pub skip_within : (b : List ℕ) (k : ℕ) → value_in b ≡ Some (Value k) → k ≤ length b
unfolding value_in
skip_within [] k e = nope (cc)
skip_within (zero ∷ []) k e = nope (cc)
skip_within (zero ∷ y ∷ r) k e = nope (cc)
skip_within (suc zero ∷ r) k e = let z : 1 ≡ k = cc in omega arith
skip_within (suc (suc t) ∷ r) k e = nope (cc)

-- ---- reading a set

module _ (b : List ℕ) (at : ℕ) {s : List ℕ} (part : s ≡ take 8 (drop at b)) where
  pub part_short : length s ≤ 8
  part_short = rw part (simp length-take (omega arith))

pub gather_start : {s b : List ℕ} {g h : Handle} → s ≡ b → g ≡ h → with_all g (versions_of (length s / 8) s) ≡ with_all h (versions_of (length b / 8) b)
gather_start e f = rw (e, f)

pub gather_turn : (x t : List ℕ) (h : Handle) {s : List ℕ} {g whole : Handle} {v : ℕ} → s ≡ x ++ t → length x ≡ 8 → v ≡ num x → g ≡ with_version h v
    → with_all h (versions_of (length s / 8) s) ≡ whole → with_all g (versions_of (length t / 8) t) ≡ whole
unfolding with_all versions_of
gather_turn x t h e l ev eg w =
    let z : length (x ++ t) / 8 ≡ suc (length t / 8) = omega (arith, length-append x t) in
    rw (eg, ev) (rw (e, z, take_at x t 8 l, drop_at x t 8 l) at w)

pub gather_end : (s : List ℕ) (h : Handle) {whole : Handle} → length s < 8 → with_all h (versions_of (length s / 8) s) ≡ whole → h ≡ whole
unfolding with_all versions_of
gather_end s h k w = let z : length s / 8 ≡ 0 = omega arith in rw z at w

versions-long : (n : ℕ) (b : List ℕ) → length (versions_of n b) ≡ n
unfolding versions_of
versions-long zero b = refl
versions-long (suc n) b = ap suc (versions-long n (drop 8 b))

module _ (b : List ℕ) (h : Handle) where
  pub set_odd : (length b % 8 ≡ 0 → ⊥) → Err BadStore ≡ set_for h (set_in b)
  unfolding set_in set_for
  set_odd k = rw (ne_eqb (length b % 8) 0 k)

  module _ (whole : length b % 8 ≡ 0) where
    set-whole : set_for h (set_in b) ≡ set_for h (Some (versions_of (length b / 8) b))
    unfolding set_in
    set-whole = rw whole

    pub set-many : max_open < length b / 8 → Err TooManyOpen ≡ set_for h (set_in b)
    unfolding set_for
    set-many k = sym (set-whole ∙ rw (versions-long (length b / 8) b, lt-leb (length b / 8) max_open k))

    module _ (few : length b / 8 ≤ max_open) (q : Handle) (made : q ≡ with_all (handle_of h.version h.read_only []) (versions_of (length b / 8) b))
        (so : Bool) (says : so ≡ sound_handle q) where
      gathers : q ≡ handle_of h.version h.read_only (versions_of (length b / 8) b)
      gathers = made ∙ made_all h.version h.read_only [] (versions_of (length b / 8) b) (rw (versions-long (length b / 8) b) (omega arith))

      rises-so : so ≡ rising (versions_of (length b / 8) b)
      rises-so = says ∙ ap sound_handle gathers ∙ made_sound h.version h.read_only (versions_of (length b / 8) b) (rw (versions-long (length b / 8) b) few)

      pub set_down : so ≡ false → Err BadStore ≡ set_for h (set_in b)
      unfolding set_for
      set_down e = sym (set-whole ∙ rw (versions-long (length b / 8) b, le-leb (length b / 8) max_open few, ← rises-so, e))

      pub set_fine : so ≡ true → Ok q ≡ set_for h (set_in b)
      unfolding set_for
      set_fine e = sym (set-whole ∙ rw (versions-long (length b / 8) b, le-leb (length b / 8) max_open few, ← rises-so, e, gathers))

-- ---- writing a set

pub lay-set : (s d : List ℕ) → 8 * length s ≤ length d → Laying d 0 (set_bytes s) d 0 (set_bytes s)
lay-set s d h = lay-front d (set_bytes s) (omega (arith, set_long s))

module _ (s : List ℕ) (i : ℕ) {d out : List ℕ} {o : ℕ} (w : Laying d 0 (set_bytes s) out o (set_bytes (drop i s))) where
  module _ (h : i < length s) where
    set_head : set_bytes (drop i s) ≡ be 8 (get_or s i 0) ++ set_bytes (drop (i + 1) s)
    unfolding set_bytes
    set_head = rw (add-one, drop-cons s i 0)

    pub set_room : o + 8 ≤ length out
    set_room = omega (arith, lay-room w (be 8 (get_or s i 0)) (set_bytes (drop (i + 1) s)) set_head, length-be 8 (get_or s i 0))

    pub set-turn : (out' : List ℕ) → out' ≡ put out o (be 8 (get_or s i 0)) → Laying d 0 (set_bytes s) out' (o + 8) (set_bytes (drop (i + 1) s))
    set-turn out' e = lay-more w (be 8 (get_or s i 0)) (set_bytes (drop (i + 1) s)) out' (o + 8) set_head (omega (arith, length-be 8 (get_or s i 0))) e

  pub set-laid : length s ≤ i → (o ≡ length (set_bytes s)) × (out ≡ put d 0 (set_bytes s))
  unfolding set_bytes
  set-laid h = let q = lay_end w (ap set_bytes (drop_of_length-le s h)) in (omega (arith, q.0), q.1)

pub set-few : (h : Handle) → length h.set ≡ max_open → {s : List ℕ} → s ≡ set_of h → {m : ℕ} → 8 * max_open ≤ m → 8 * length s ≤ m
unfolding set_of
set-few h f e k = rw e (simp length-take (omega (arith, f)))
