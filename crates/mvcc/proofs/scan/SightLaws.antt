-- A record of the walk is what its pair says, by the bytes at its places. Assumes nothing.
use Prim.Native.Nat.{ℕ, ◌+◌, ◌-◌, ◌≤◌}
use mathlib.Core.Path.{◌≡◌, refl, sym, ap, ◌∙◌}
use mathlib.Core.Bool.{Bool, true, false}
use mathlib.Core.List.{List}
use native.Mathlib.Omega.{arith}
use lib.ListN.{length, take, drop, length-append}
use lib.Seq.{take-take, drop-drop}
use Rattle.std.specs.Prelude.{Result, Ok, Err, Option, None, Some}
use Rattle.keycode.specs.declared.key.Key.{Key}
use Rattle.keycode.specs.declared.refusal.Refusal.{Refusal}
use Rattle.keycode.specs.Tests.{pick}
use Rattle.keycode.specs.Limits.{max_key}
use Rattle.keycode.specs.Strings.{escape_body, escape, unescaped}
use Rattle.keycode.specs.key.Keys.{decode_why, forget}
use Rattle.keycode.specs.declared.parts.Part.{Part}
use Rattle.keycode.specs.declared.key.Key.TheVariants.{NextVersion, TxnActive, TxnActiveSnapshot, TxnWrite, Version, Unversioned}
use Rattle.keycode.proofs.StringLaws.{escape-length}
use Rattle.bitcask.specs.engine.Rows.{Row, key_place, value_place, Stands}
use Rattle.mvcc.specs.declared.handle.Handle.{Handle}
use Rattle.mvcc.specs.declared.payload.Stored.{Stored}
use Rattle.mvcc.specs.declared.payload.Stored.TheVariants as Payload
use Rattle.mvcc.specs.handle.Handles.{sees}
use Rattle.mvcc.specs.payload.Payloads.{value_in, value_at}
use Rattle.mvcc.proofs.request.LookLaws.{drop-take}
use Rattle.mvcc.specs.declared.version.Seen.{Seen}
use Rattle.mvcc.specs.declared.version.Seen.TheVariants.{Hidden, Gone, Bad, Value}
use Rattle.mvcc.specs.declared.version.Record.{Record}
use Rattle.mvcc.specs.version.Seen.{label_by, string_part, says_by, row_says, seen_as, record_by, record_row}
use Rattle.mvcc.specs.walk.Walks.{part_of}
use Rattle.mvcc.specs.scan.Steps.{Stamp, stamp_by, stamp_of, Given, Sight, hidden, gone, bad, shows, sight_by, sight_of}
use Rattle.mvcc.proofs.scan.NameLaws.{Named, version-named, named_part, named-user}

-- the user key as it stands in the log
abbrev pub raw : Given → Given
raw g = record { user = escape_body g.user; value = g.value }

abbrev pub escaped : Sight → Sight
escaped hidden = hidden
escaped gone = gone
escaped bad = bad
escaped (shows g) = shows (raw g)

-- the bytes at the places
abbrev pub shown : List ℕ → Part → Seen → Sight
shown log key Hidden = hidden
shown log key Gone = gone
shown log key Bad = bad
shown log key (Value v) = shows (record { user = part_of log key; value = part_of log v })

module _ (log : List ℕ) (r : Row) (w : Stands log r) where
  -- a part of the key behind its first byte
  key_part_lem : (n : ℕ) → n + 1 ≤ length r.key → part_of log (string_part (key_place r) n) ≡ take n (drop 1 r.key)
  key_part_lem n h =
      sym (ap (λ (x : List ℕ). take n (drop 1 x)) (sym w.key) ∙ ap (take n) (sym (drop-take 1 (length r.key) (drop r.at log)))
      ∙ take-take n (length r.key - 1) (drop 1 (drop r.at log)) (omega arith)
      ∙ ap (take n) (drop-drop 1 r.at log))

  key-bytes : {p : Part} → Named r.key p → part_of log (string_part (key_place r) p.len) ≡ escape_body (unescaped (take p.len (drop p.at r.key)))
  key-bytes {p} n =
      key_part_lem p.len (omega (arith, n.long, ap length n.here, length-append (escape n.string) n.rest, escape-length n.string))
      ∙ named_part n ∙ ap escape_body (sym (named-user n))

  module _ (k : Part) (z : Stamp) (e : part_of log k ≡ escape_body z.user) where
    value-shown : (v : Option Stored) → shown log k (says_by (value_place r) v) ≡ escaped (sight_by z.user (value_at r.value v))
    value-shown (Some (Payload.Value skip)) =
        let q : take (length r.value - skip) (drop (r.at + length r.key + skip) log) ≡ drop skip r.value =
        ap (take (length r.value - skip)) (sym (drop-drop skip (r.at + length r.key) log)) ∙ drop-take skip (length r.value) (drop (r.at + length r.key) log)
        ∙ ap (drop skip) w.value in
        λ j. shows (record { user = e j; value = q j })
    value-shown (Some Payload.Gone) = refl
    value-shown None = refl

    seen_shown : (h : Handle) → shown log k (seen_as h (row_says r) z.version) ≡ escaped (sight_of h z r.value)
    unfolding row_says sight_of
    seen_shown h = go (sees h z.version)
      where
        go : (b : Bool) → shown log k (pick b (says_by (value_place r) (value_in r.value)) Hidden) ≡ escaped (pick b (sight_by z.user (value_at r.value (value_in r.value))) hidden)
        go true = value-shown (value_in r.value)
        go false = refl

-- what a record is, of a row whose key has a stamp or none
pub data Told (h : Handle) (log : List ℕ) (r : Row) (x : Option Record) (stamp : Option Stamp) : Type 0 where
  junk : x ≡ None → stamp ≡ None → Told h log r x stamp
  good : (k : Part) (i : Seen) (z : Stamp) → x ≡ Some (record { key = k; seen = i }) → stamp ≡ Some z → part_of log k ≡ escape_body z.user → shown log k i ≡ escaped (sight_of h z r.value) → Told h log r x stamp

pub told : (h : Handle) (log : List ℕ) (r : Row) → Stands log r → Told h log r (record_row h r) (stamp_of r.key)
unfolding record_row stamp_of
told h log r w = go (forget (decode_why max_key r.key)) refl
  where
    go : (d : Result Key Refusal) → forget (decode_why max_key r.key) ≡ d → Told h log r (record_by h r (label_by d)) (stamp_by r.key (label_by d))
    go (Ok NextVersion) e = junk refl refl
    go (Ok (TxnActive v)) e = junk refl refl
    go (Ok (TxnActiveSnapshot v)) e = junk refl refl
    go (Ok (TxnWrite v p)) e = junk refl refl
    go (Ok (Version p v)) e =
        let z : Stamp = record { user = unescaped (take p.len (drop p.at r.key)); version = v } in
        let k : Part = string_part (key_place r) p.len in
        let q : part_of log k ≡ escape_body z.user = key-bytes log r w (version-named r.key p v e) in
        good k (seen_as h (row_says r) v) z refl refl q (seen_shown log r w k z q h)
    go (Ok (Unversioned p)) e = junk refl refl
    go (Err x) e = junk refl refl
