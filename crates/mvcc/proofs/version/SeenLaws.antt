-- What the rows of a key say to a handle: what the code answers, for any table, and in the words of recovery. Assumes nothing.
use Prim.Native.Nat.{ℕ, ◌+◌, ◌^◌, ◌≤◌, ◌<◌}
use mathlib.Core.Path.{◌≡◌, refl, sym, ap, ◌∙◌}
use mathlib.Core.Bool.{Bool, true, false}
use mathlib.Core.List.{List, [], ◌∷◌, ◌++◌}
use native.Mathlib.Omega.{arith}
use lib.ListN.{length, take}
use Rattle.std.specs.Prelude.{Result, Ok, Option, ℕ, Some, None}
use Rattle.keycode.specs.Limits.{max_key}
use Rattle.keycode.specs.declared.parts.Part.{Part}
use Rattle.keycode.specs.declared.refusal.Refusal.{Refusal}
use Rattle.keycode.specs.key.Keys.{encode, version, decode_why, forget}
use Rattle.keycode.specs.declared.key.Key.{Key}
use Rattle.keycode.specs.declared.key.Key.TheVariants.{NextVersion, TxnActive, TxnActiveSnapshot, TxnWrite, Version, Unversioned}
use Rattle.bitcask.specs.declared.answers.Bound.TheVariants.{Included}
use Rattle.mvcc.specs.declared.payload.Stored.{Stored}
use Rattle.mvcc.specs.declared.payload.Stored.TheVariants as Payload
use Rattle.mvcc.specs.payload.Payloads.{value_in}
use Rattle.mvcc.proofs.payload.PayloadLaws.{skip_within}
use Rattle.mvcc.specs.declared.handle.Handle.{Handle}
use Rattle.mvcc.specs.handle.Handles.{sees}
use Rattle.keycode.specs.declared.code.Code.{Code}
use Rattle.keycode.specs.code.Codes.{Codes}
use Rattle.bitcask.specs.declared.engine.mark.Mark.{Mark}
use Rattle.bitcask.specs.declared.engine.spot.Spot.{Spot}
use Rattle.bitcask.specs.engine.Rows.{Row, rows, key_place, value_place, rows_in}
use Rattle.bitcask.specs.engine.Marks.{Agreeing}
use Rattle.bitcask.specs.engine.Spots.{rank, row_at, upto_rank}
use Rattle.bitcask.specs.engine.Ranges.{keep_rows}
use Rattle.bitcask.specs.engine.Walks.{near_rank, before_in, down_from}
use Rattle.bitcask.proofs.engine.WalkLaws.{walk_over, walk_on}
use Rattle.bitcask.proofs.engine.RangeLaws.{down_agrees}
use Rattle.mvcc.specs.declared.version.Label.{Label}
use Rattle.mvcc.specs.declared.version.Seen.{Seen}
use Rattle.mvcc.specs.declared.version.Seen.TheVariants.{Hidden, Gone, Bad, Value}
use Rattle.mvcc.specs.version.Seen.{label_key, label_by, version_in, version_of, behind_part, string_part, says_by, row_says, seen_as, seen_by, seen_row, record_by, record_row}
use Rattle.mvcc.specs.version.Seen.{or_else, last_rows, version_test, version_rows}

-- ---- a key

pub label_own : {got d : Result Key Refusal} (k : Key) (p : Part) (v : ℕ) → got ≡ d → got ≡ Ok k → k ≡ Version p v → Some (record { string = p; version = v }) ≡ label_by d
label_own k p v e f g = ap label_key (sym g) ∙ ap label_by (sym f ∙ e)

pub label_other : {got d : Result Key Refusal} (k : Key) → got ≡ d → got ≡ Ok k → ((p : Part) (v : ℕ) → k ≡ Version p v → ⊥) → None ≡ label_by d
label_other NextVersion e f n = ap label_by (sym f ∙ e)
label_other (TxnActive v) e f n = ap label_by (sym f ∙ e)
label_other (TxnActiveSnapshot v) e f n = ap label_by (sym f ∙ e)
label_other (TxnWrite v p) e f n = ap label_by (sym f ∙ e)
label_other (Version p v) e f n = absurd (n p v refl)
label_other (Unversioned p) e f n = ap label_by (sym f ∙ e)

pub version_by : (d : Result Key Refusal) {got j : Option Label} → got ≡ label_by d → got ≡ j → version_in j ≡ version_of d
version_by d p q = ap version_in (sym q ∙ p)

-- ---- a payload

module _ (x : Row) {b : List ℕ} {got : Option Stored} (eb : b ≡ x.value) (eg : got ≡ value_in b) where
  says-got : row_says x ≡ says_by (value_place x) got
  unfolding row_says
  says-got = rw (← eb, eg)

  pub says-room : (k : ℕ) (p : Part) → got ≡ Some (Payload.Value k) → (p ≡ value_place x) × (p.at + p.len < 2 ^ 63) → (k ≤ p.len) × (p.at + p.len < 2 ^ 63)
  says-room k p e w =
      let l : k ≤ length b = skip_within b k (sym eg ∙ e) in
      (omega (arith, ap length eb, ap (λ (q : Part). q.len) w.0), w.1)

  pub says-value : (k : ℕ) (p q : Part) → got ≡ Some (Payload.Value k) → p ≡ value_place x → q ≡ behind_part p k → Value q ≡ row_says x
  says-value k p q e ep eq = sym (says-got ∙ rw (e, eq, ep))

  pub says-gone : got ≡ Some Payload.Gone → Gone ≡ row_says x
  says-gone e = sym (says-got ∙ rw e)

  pub says-bad : got ≡ None → Bad ≡ row_says x
  says-bad e = sym (says-got ∙ rw e)

-- ---- a record

module _ (h : Handle) (i : Seen) (v : ℕ) {b : Bool} (eb : b ≡ sees h v) where
  pub as_hidden : b ≡ false → Hidden ≡ seen_as h i v
  as_hidden t = rw (← eb, t)

  pub as_seen : b ≡ true → {r : Seen} → r ≡ i → r ≡ seen_as h i v
  as_seen t er = rw (← eb, t) er

module _ (h : Handle) (x : Row) {k : List ℕ} (ek : k ≡ x.key) where
  module _ {got : Option ℕ} (eg : got ≡ version_of (forget (decode_why max_key k))) where
    seen_got : seen_row h x ≡ seen_by h (row_says x) got
    unfolding seen_row
    seen_got = rw (← ek, eg)

    pub seen_broken : got ≡ None → Bad ≡ seen_row h x
    seen_broken e = sym (seen_got ∙ rw e)

    pub seen_version : (v : ℕ) → got ≡ Some v → {r : Seen} → r ≡ seen_as h (row_says x) v → r ≡ seen_row h x
    seen_version v e er = er ∙ sym (seen_got ∙ rw e)

  module _ {got : Option Label} (eg : got ≡ label_by (forget (decode_why max_key k))) where
    record_got : record_row h x ≡ record_by h x got
    unfolding record_row
    record_got = rw (← ek, eg)

    pub record_junk : got ≡ None → None ≡ record_row h x
    record_junk e = sym (record_got ∙ rw e)

    pub record_good : (l : Label) → got ≡ Some l → {a q : Part} {r : Seen} → a ≡ key_place x → q ≡ string_part a l.string.len → r ≡ seen_as h (row_says x) l.version
        → Some (record { key = q; seen = r }) ≡ record_row h x
    record_good l e ea eq er = sym (record_got ∙ rw (e, er, eq, ea))

-- ---- the walk down

or_assoc : (a b c : Seen) → or_else a (or_else b c) ≡ or_else (or_else a b) c
or_assoc Hidden b c = refl
or_assoc Gone b c = refl
or_assoc Bad b c = refl
or_assoc (Value p) b c = refl

or_hidden : (a : Seen) → or_else a Hidden ≡ a
or_hidden Hidden = refl
or_hidden Gone = refl
or_hidden Bad = refl
or_hidden (Value p) = refl

last_snoc : (h : Handle) (rs : List Row) (x : Row) → last_rows h (rs ++ (x ∷ [])) ≡ or_else (seen_row h x) (last_rows h rs)
unfolding last_rows
last_snoc h [] x = sym (or_hidden (seen_row h x))
last_snoc h (y ∷ rs) x = rw (last_snoc h rs x) (sym (or_assoc (seen_row h x) (last_rows h rs) (seen_row h y)))

-- the rows before number n are still to be looked at
pub record Seeking (h : Handle) (low : List ℕ) (rs : List Row) (from n : ℕ) : Type 0 where
  pub within : n ≤ length rs
  pub same : last_rows h (down_from Included low rs from) ≡ last_rows h (down_from Included low rs n)

module _ {h : Handle} {low : List ℕ} {rs : List Row} {from n : ℕ} (w : Seeking h low rs from n) {r : Option Spot} (says : near_rank r rs ≡ before_in Included low rs n) where
  pub seek_over : r ≡ None → Hidden ≡ last_rows h (down_from Included low rs from)
  unfolding last_rows
  seek_over e = sym (w.same ∙ rw (walk_over Included low rs n r says e))

  module _ (p : Spot) (e : r ≡ Some p) where
    pub seek_stands : rank p rs < length rs
    seek_stands = let l : n ≤ length rs = w.within in omega (arith, (walk_on Included low rs n r says p e).0)

    pub seek_less : rank p rs < n
    seek_less = omega (arith, (walk_on Included low rs n r says p e).0)

    module _ {s : Seen} (es : s ≡ seen_row h (row_at p rs)) where
      seek_at : last_rows h (down_from Included low rs from) ≡ or_else s (last_rows h (down_from Included low rs (rank p rs)))
      seek_at =
          w.same ∙ ap (last_rows h) (walk_on Included low rs n r says p e).1 ∙ last_snoc h (down_from Included low rs (rank p rs)) (row_at p rs)
          ∙ ap (λ (x : Seen). or_else x (last_rows h (down_from Included low rs (rank p rs)))) (sym es)

      pub seek_hidden : s ≡ Hidden → Seeking h low rs from (rank p rs)
      seek_hidden q = let l = seek_stands in record { within = omega arith; same = seek_at ∙ rw q }

      pub seek_decided : (s ≡ Hidden → ⊥) → s ≡ last_rows h (down_from Included low rs from)
      seek_decided n = sym (seek_at ∙ stays s n)
        where
          stays : (t : Seen) → (t ≡ Hidden → ⊥) → or_else t (last_rows h (down_from Included low rs (rank p rs))) ≡ t
          stays Hidden k = absurd (k refl)
          stays Gone k = refl
          stays Bad k = refl
          stays (Value v) k = refl

-- ---- the versions of a key

pub highest_by : (rs : List Row) (h : Handle) (key : List ℕ) (v : ℕ) {a b : Code} {n : ℕ} {s : Seen} → Codes b (encode (version key v)) → n ≡ upto_rank Included (take b.len b.bytes) rs
    → Codes a (encode (version key 0)) → s ≡ last_rows h (down_from Included (take a.len a.bytes) rs n) → s ≡ last_rows h (version_rows key v rs)
unfolding version_rows
highest_by rs h key v wb en wa es = es ∙ rw (wa.says, en, wb.says)

-- ---- of the log

pub versions_agree : (log t : List ℕ) (m : Mark) (h : Handle) (key : List ℕ) (v : ℕ) → Agreeing log t m
    → last_rows h (version_rows key v (rows log t m)) ≡ last_rows h (keep_rows (version_test key v) (rows_in log m.used.len))
unfolding version_rows
versions_agree log t m h key v g = ap (last_rows h) (down_agrees Included (encode (version key 0)) Included (encode (version key v)) log t m g)
