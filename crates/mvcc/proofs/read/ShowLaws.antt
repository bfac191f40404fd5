-- What get shows of the map: the bytes at the place that it answers, and what its refusals mean. Assumes nothing.
use Prim.Native.Nat.{ℕ, ◌+◌, ◌-◌}
use mathlib.Core.Path.{◌≡◌, refl, sym, ap, ◌∙◌}
use mathlib.Core.Bool.{Bool, true, false}
use mathlib.Core.List.{List}
use lib.Dec.{leb}
use lib.ListN.{length, take, drop}
use lib.Seq.{drop-drop}
use Rattle.std.specs.Prelude.{Result, Ok, Err, Option, ℕ, Some, None}
use Rattle.keycode.specs.declared.refusal.Refusal.{Refusal}
use Rattle.keycode.specs.Tests.{pick}
use Rattle.keycode.specs.Limits.{max_key}
use Rattle.keycode.specs.key.Keys.{decode_why, forget}
use Rattle.keycode.specs.declared.refusal.Refusal.TheVariants.{Absent, KeyTooLong, BadStore}
use Rattle.keycode.specs.declared.parts.Part.{Part}
use Rattle.keycode.proofs.Basics.{nope}
use Rattle.bitcask.specs.keydir.Place.{All, all_none, all_more}
use Rattle.bitcask.specs.recovery.Map.{pairs_of}
use Rattle.bitcask.specs.recovery.Recover.{map_of}
use Rattle.bitcask.specs.recovery.Agree.{fit, Agrees}
use Rattle.bitcask.specs.engine.Rows.{Row, value_place, pairs, rows_in, Stands}
use Rattle.bitcask.specs.engine.Ranges.{keep_rows}
use Rattle.bitcask.proofs.engine.RowLaws.{in_stand}
use Rattle.bitcask.proofs.engine.RangeLaws.{keep_in, keep_all}
use Rattle.mvcc.specs.declared.handle.Handle.{Handle}
use Rattle.mvcc.specs.declared.payload.Stored.{Stored}
use Rattle.mvcc.specs.declared.payload.Stored.TheVariants as Payload
use Rattle.mvcc.specs.handle.Handles.{sees, sound_handle}
use Rattle.mvcc.specs.payload.Payloads.{value_in, value_at}
use Rattle.mvcc.specs.request.Checks.{admit_by, open_in}
use Rattle.mvcc.proofs.request.LookLaws.{drop-take}
use Rattle.mvcc.specs.declared.version.Seen.{Seen}
use Rattle.mvcc.specs.declared.version.Seen.TheVariants.{Hidden, Gone, Bad, Value}
use Rattle.mvcc.specs.version.Seen.{version_of, says_by, row_says, seen_by, seen_row, or_else, last_rows, located_seen, version_test, pair_by, pair_says, or_pair, last_pair, or_gone, value_for}
use Rattle.mvcc.specs.read.Promises.{checked, get_answer, Gets}

-- ---- a walk over rows that stand in their log is the walk over their pairs

-- the bytes at the place that a walk found
abbrev shown_by : List ℕ → Seen → Option (Option (Option (List ℕ)))
shown_by log Hidden = None
shown_by log Gone = Some (Some None)
shown_by log Bad = Some None
shown_by log (Value p) = Some (Some (Some (take p.len (drop p.at log))))

module _ (h : Handle) (log : List ℕ) where
  value-view : (r : Row) → Stands log r → (v : Option Stored) → shown_by log (says_by (value_place r) v) ≡ Some (value_at r.value v)
  value-view r w (Some (Payload.Value k)) =
      ap (λ (x : List ℕ). Some (Some (Some x)))
      (ap (take (length r.value - k)) (sym (drop-drop k (r.at + length r.key) log)) ∙ drop-take k (length r.value) (drop (r.at + length r.key) log)
      ∙ ap (drop k) w.value)
  value-view r w (Some Payload.Gone) = refl
  value-view r w None = refl

  seen_view : (r : Row) → Stands log r → shown_by log (seen_row h r) ≡ pair_says h (record { key = r.key; value = r.value })
  unfolding seen_row pair_says row_says
  seen_view r w = go (version_of (forget (decode_why max_key r.key)))
    where
      by : (b : Bool) → shown_by log (pick b (says_by (value_place r) (value_in r.value)) Hidden) ≡ pick b (Some (value_at r.value (value_in r.value))) None
      by true = value-view r w (value_in r.value)
      by false = refl

      go : (v : Option ℕ) → shown_by log (seen_by h (says_by (value_place r) (value_in r.value)) v) ≡ pair_by h (value_at r.value (value_in r.value)) v
      go None = refl
      go (Some v) = by (sees h v)

  or_view : (a b : Seen) → shown_by log (or_else a b) ≡ or_pair (shown_by log a) (shown_by log b)
  or_view Hidden b = refl
  or_view Gone b = refl
  or_view Bad b = refl
  or_view (Value p) b = refl

  last_view : {rs : List Row} → All (Stands log) rs → shown_by log (last_rows h rs) ≡ last_pair h (pairs rs)
  unfolding last_rows last_pair pairs
  last_view all_none = refl
  last_view (all_more {x = r} {xs = rs} w a) = or_view (last_rows h rs) (seen_row h r) ∙ rw (last_view a, seen_view r w)

-- ---- answers taken back to what the walk found

module _ (log : List ℕ) (s : Seen) where
  told_at : (f g o b : Bool) (p : Part) → checked (admit_by f g o) (pick b (located_seen s) (Err KeyTooLong)) ≡ Ok p
      → or_gone (shown_by log s) ≡ Some (Some (take p.len (drop p.at log)))
  unfolding admit_by
  told_at true true true true p e = go s e
    where
      go : (x : Seen) → located_seen x ≡ Ok p → or_gone (shown_by log x) ≡ Some (Some (take p.len (drop p.at log)))
      go Hidden q = nope (cc)
      go Gone q = nope (cc)
      go Bad q = nope (cc)
      go (Value y) q = let z : y ≡ p = cc in rw z
  told_at true true true false p e = nope (cc)
  told_at true true false b p e = nope (cc)
  told_at true false o b p e = nope (cc)
  told_at false g o b p e = nope (cc)

  told_absent : (f g o b : Bool) → checked (admit_by f g o) (pick b (located_seen s) (Err KeyTooLong)) ≡ Err Absent → or_gone (shown_by log s) ≡ Some None
  unfolding admit_by
  told_absent true true true true e = go s e
    where
      go : (x : Seen) → located_seen x ≡ Err Absent → or_gone (shown_by log x) ≡ Some None
      go Hidden q = refl
      go Gone q = refl
      go Bad q = nope (cc)
      go (Value y) q = nope (cc)
  told_absent true true true false e = nope (cc)
  told_absent true true false b e = nope (cc)
  told_absent true false o b e = nope (cc)
  told_absent false g o b e = nope (cc)

  told-bad : (f g o b : Bool) → checked (admit_by f g o) (pick b (located_seen s) (Err KeyTooLong)) ≡ Err BadStore → or_gone (shown_by log s) ≡ None
  unfolding admit_by
  told-bad true true true true e = go s e
    where
      go : (x : Seen) → located_seen x ≡ Err BadStore → or_gone (shown_by log x) ≡ None
      go Hidden q = nope (cc)
      go Gone q = nope (cc)
      go Bad q = refl
      go (Value y) q = nope (cc)
  told-bad true true true false e = nope (cc)
  told-bad true true false b e = nope (cc)
  told-bad true false o b e = nope (cc)
  told-bad false g o b e = nope (cc)

-- ---- get

module _ {log : List ℕ} {used : ℕ} {t : List ℕ} {h : Handle} {key : List ℕ} {r : Result Part Refusal} (a : Agrees log used t) (w : Gets log used t h key r) where
  found : Seen
  found = last_rows h (keep_rows (version_test key h.version) (rows_in log used))

  value-is : value_for h (pairs_of (version_test key h.version) (map_of log used)) ≡ or_gone (shown_by log found)
  unfolding value_for found
  value-is =
      rw (← keep_in (version_test key h.version) log used)
      (ap or_gone (sym (last_view h log (keep_all (version_test key h.version) (in_stand log used)))))

  -- the bytes at the place are the value that the handle sees in the map
  pub get_shows : (p : Part) → r ≡ Ok p → value_for h (pairs_of (version_test key h.version) (map_of log used)) ≡ Some (Some (take p.len (drop p.at log)))
  unfolding get_answer found
  get_shows p e =
      value-is
      ∙ told_at log found (fit (length log) used (length t)) (sound_handle h) (open_in log used h) (leb (length key) max_key) p (sym (w.answer a) ∙ e)

  -- 1: there is none, or it is deleted
  pub get_none : r ≡ Err Absent → value_for h (pairs_of (version_test key h.version) (map_of log used)) ≡ Some None
  unfolding get_answer found
  get_none e =
      value-is
      ∙ told_absent log found (fit (length log) used (length t)) (sound_handle h) (open_in log used h) (leb (length key) max_key) (sym (w.answer a) ∙ e)

  -- 12: a key or a payload is bad
  pub get_broken : r ≡ Err BadStore → value_for h (pairs_of (version_test key h.version) (map_of log used)) ≡ None
  unfolding get_answer found
  get_broken e =
      value-is
      ∙ told-bad log found (fit (length log) used (length t)) (sound_handle h) (open_in log used h) (leb (length key) max_key) (sym (w.answer a) ∙ e)
