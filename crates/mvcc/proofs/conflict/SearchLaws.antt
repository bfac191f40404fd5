-- The search for conflicts: what the code answers, in the words of the map, and its numbers. Assumes nothing.
use Prim.Native.Nat.{ℕ, ◌≤◌, ◌<◌}
use mathlib.Core.Path.{◌≡◌, refl, sym, ap, ◌∙◌}
use mathlib.Core.Bool.{Bool, true, false}
use mathlib.Core.List.{List, [], ◌∷◌, ◌++◌}
use native.Mathlib.Omega.{arith}
use lib.ListN.{length, take}
use Rattle.std.specs.Prelude.{Result, ⊤, Ok, Err, Option, ℕ, Some, None}
use Rattle.keycode.specs.Tests.{pick}
use Rattle.keycode.specs.Limits.{max_key}
use Rattle.keycode.specs.key.Keys.{encode, version, decode_why, forget}
use Rattle.keycode.specs.declared.refusal.Refusal.{Refusal}
use Rattle.keycode.specs.declared.refusal.Refusal.TheVariants.{Conflict, BadStore}
use Rattle.keycode.proofs.Basics.{nope}
use Rattle.bitcask.specs.recovery.Map.{Pair, pairs_of}
use Rattle.bitcask.specs.recovery.Recover.{map_of}
use Rattle.bitcask.specs.declared.answers.Bound.TheVariants.{Included}
use Rattle.mvcc.specs.declared.handle.Handle.{Handle}
use Rattle.mvcc.specs.handle.Handles.{sees, lowest_of}
use Rattle.mvcc.specs.version.Seen.{version_of}
use Rattle.keycode.specs.declared.code.Code.{Code}
use Rattle.keycode.specs.code.Codes.{Codes}
use Rattle.bitcask.specs.declared.engine.mark.Mark.{Mark}
use Rattle.bitcask.specs.declared.engine.spot.Spot.{Spot}
use Rattle.bitcask.specs.engine.Rows.{Row, rows, pairs}
use Rattle.bitcask.specs.engine.Marks.{Agreeing}
use Rattle.bitcask.specs.engine.Spots.{rank, row_at, upto_rank}
use Rattle.bitcask.specs.engine.Walks.{near_rank, before_in, down_from}
use Rattle.bitcask.proofs.engine.WalkLaws.{walk_over, walk_on}
use Rattle.bitcask.specs.engine.Ranges.{inside}
use Rattle.bitcask.proofs.engine.RangeLaws.{upto-within, down_agrees, keep_in}
use Rattle.mvcc.specs.conflict.Conflicts.{met_by, seen_bytes, search_by, low_key, high_key, unseen_rows, searched}

-- ---- one key

module _ (h : Handle) (b : List ℕ) {got : Option ℕ} (says : got ≡ version_of (forget (decode_why max_key b))) where
  pub met_bad : got ≡ None → Err BadStore ≡ seen_bytes h b
  unfolding seen_bytes
  met_bad e = rw (← says, e)

  module _ (v : ℕ) (e : got ≡ Some v) {o : Bool} (eo : o ≡ sees h v) where
    pub met_fine : o ≡ true → (Ok tt) ≡ seen_bytes h b
    unfolding seen_bytes
    met_fine t = rw (← says, e, ← eo, t)

    pub met_other : o ≡ false → Err Conflict ≡ seen_bytes h b
    unfolding seen_bytes
    met_other t = rw (← says, e, ← eo, t)

-- ---- the last of a range

-- the last row decides
last_says : (h : Handle) (rs : List Row) (x : Row) → search_by h (pairs (rs ++ (x ∷ []))) ≡ seen_bytes h x.key
unfolding pairs search_by
last_says h [] x = refl
last_says h (a ∷ []) x = refl
last_says h (a ∷ b ∷ rs) x = last_says h (b ∷ rs) x

-- the place past a key's last version lies among the rows
pub end_within : (rs : List Row) (c : Code) {n : ℕ} → n ≡ upto_rank Included (take c.len c.bytes) rs → n ≤ length rs
end_within rs c en = rw en (upto-within (take c.len c.bytes) rs Included)

module _ (rs : List Row) (h : Handle) (key : List ℕ) {high low : Code} {n v : ℕ} (wh : Codes high (high_key key)) (en : n ≡ upto_rank Included (take high.len high.bytes) rs) (ev : v ≡ lowest_of h)
    (wl : Codes low (encode (version key v))) where
  unseen_is : unseen_rows h key rs ≡ down_from Included (take low.len low.bytes) rs n
  unfolding unseen_rows
  unseen_is = sym (rw (wl.says, en, wh.says, ev))

  module _ (r : Option Spot) (says : near_rank r rs ≡ before_in Included (take low.len low.bytes) rs n) where
    pub search_none : r ≡ None → (Ok tt) ≡ search_by h (pairs (unseen_rows h key rs))
    unfolding pairs search_by
    search_none e = rw (unseen_is, walk_over Included (take low.len low.bytes) rs n r says e)

    module _ (p : Spot) (e : r ≡ Some p) where
      pub search_stands : rank p rs < length rs
      search_stands =
          let l : n ≤ length rs = end_within rs high en in
          omega (arith, (walk_on Included (take low.len low.bytes) rs n r says p e).0)

      pub search_last : {k : List ℕ} {c : Result ⊤ Refusal} → k ≡ (row_at p rs).key → c ≡ seen_bytes h k → c ≡ search_by h (pairs (unseen_rows h key rs))
      search_last ek ec =
          ec ∙ ap (seen_bytes h) ek ∙ sym (rw (unseen_is, (walk_on Included (take low.len low.bytes) rs n r says p e).1)
          (last_says h (down_from Included (take low.len low.bytes) rs (rank p rs)) (row_at p rs)))

-- ---- of the map

pub search_agrees : (log t : List ℕ) (m : Mark) (h : Handle) (key : List ℕ) → Agreeing log t m
    → search_by h (pairs (unseen_rows h key (rows log t m))) ≡ search_by h (pairs_of (searched h key) (map_of log m.used.len))
unfolding unseen_rows searched
search_agrees log t m h key g =
    ap (λ (rs : List Row). search_by h (pairs rs)) (down_agrees Included (low_key h key) Included (high_key key) log t m g)
    ∙ ap (search_by h) (keep_in (inside Included (low_key h key) Included (high_key key)) log m.used.len)

-- ---- its numbers: 12 and 6

pub data Found : Refusal → Type 0 where
  found_bad : Found BadStore
  found_unseen : Found Conflict

bytes_refused : (h : Handle) (b : List ℕ) (r : Refusal) → seen_bytes h b ≡ Err r → Found r
unfolding seen_bytes
bytes_refused h b r e = go (version_of (forget (decode_why max_key b))) e
  where
    by : (o : Bool) → ◌≡◌ {A = Result ⊤ Refusal} (pick o (Ok tt) (Err Conflict)) (Err r) → Found r
    by true f = nope (cc)
    by false f = let q : r ≡ Conflict = cc in rw q found_unseen

    go : (d : Option ℕ) → met_by h d ≡ Err r → Found r
    go None f = let q : r ≡ BadStore = cc in rw q found_bad
    go (Some v) f = by (sees h v) f

pub search_refused : (h : Handle) (m : List Pair) (r : Refusal) → search_by h m ≡ Err r → Found r
unfolding search_by
search_refused h [] r e = nope (cc)
search_refused h (q ∷ []) r e = bytes_refused h q.key r e
search_refused h (q ∷ p ∷ m) r e = search_refused h (p ∷ m) r e
