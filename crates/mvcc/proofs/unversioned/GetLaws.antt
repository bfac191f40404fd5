-- The unversioned get keeps its promise, and what it shows of the map. Assumes nothing.
use Prim.Native.Nat.{ℕ, ◌≤◌, ◌<◌}
use mathlib.Core.Path.{◌≡◌, refl, sym, ap, ◌∙◌}
use mathlib.Core.Bool.{Bool, true, false, not}
use mathlib.Core.List.{List}
use lib.Dec.{leb, eqb}
use lib.ListN.{length, take, drop}
use borrow.Author.Tests.{le-leb, lt-leb}
use Rattle.std.specs.Prelude.{Result, Ok, Err, Option, None, Some}
use Rattle.keycode.specs.Tests.{pick}
use Rattle.keycode.specs.Limits.{max_key}
use Rattle.keycode.specs.key.Keys.{encode, unversioned}
use Rattle.keycode.specs.declared.refusal.Refusal.{Refusal}
use Rattle.keycode.specs.declared.refusal.Refusal.TheVariants.{Absent, KeyTooLong, BadRequest}
use Rattle.keycode.specs.declared.parts.Part.{Part}
use Rattle.keycode.proofs.Basics.{nope}
use Rattle.bitcask.specs.declared.request.Used.{Used}
use Rattle.bitcask.specs.recovery.Map.{look_in}
use Rattle.bitcask.specs.recovery.Recover.{map_of}
use Rattle.bitcask.specs.recovery.Agree.{fit, Agrees}
use Rattle.bitcask.specs.read.Promises.{located_number}
use Rattle.bitcask.specs.declared.engine.mark.Mark.{Mark}
use Rattle.bitcask.specs.declared.engine.spot.Spot.{Spot}
use Rattle.bitcask.specs.engine.Rows.{Row, value_place, rows, rows_in, Stands}
use Rattle.bitcask.specs.engine.Marks.{mark_of, entered_by}
use Rattle.bitcask.specs.engine.Spots.{row_at, placed, place_by, look_row, row_value}
use Rattle.bitcask.proofs.engine.RowLaws.{rows_agree}
use Rattle.bitcask.proofs.engine.LookLaws.{found_row, absent_row, look_in_lem, look_stands}
use Rattle.bitcask.proofs.engine.SpotLaws.{in_fits, refused_fits}
use Rattle.keycode.specs.declared.code.Code.{Code}
use Rattle.keycode.specs.code.Codes.{Codes}
use Rattle.mvcc.specs.unversioned.Promises.{row_located, unversioned_answer, GetsUnversioned}

-- ---- numbers

module _ (o : Option Row) where
  row_number_lem : (x : Option Row) (n : ℕ) → eqb 0 n ≡ false → eqb 1 n ≡ false → eqb (located_number (row_located x)) n ≡ false
  row_number_lem (Some y) n a b = a
  row_number_lem None n a b = b

  bad_by : (f b : Bool) → eqb (located_number (pick f (pick b (row_located o) (Err KeyTooLong)) (Err BadRequest))) 13 ≡ not f
  bad_by true true = row_number_lem o 13 refl refl
  bad_by true false = refl
  bad_by false b = refl

  long_by : (f b : Bool) → eqb (located_number (pick f (pick b (row_located o) (Err KeyTooLong)) (Err BadRequest))) 4 ≡ pick f (not b) false
  long_by true true = row_number_lem o 4 refl refl
  long_by true false = refl
  long_by false b = refl

-- ---- the promise

module _ (log : List ℕ) (used : Used) (t key : List ℕ) where
  keeps : {r : Result Part Refusal} → r ≡ unversioned_answer (fit (length log) used.len (length t)) key (look_row (encode (unversioned key)) (rows log t (mark_of used t)))
      → GetsUnversioned log used.len t key r
  unfolding unversioned_answer
  keeps e =
      let o : Option Row = look_row (encode (unversioned key)) (rows log t (mark_of used t)) in
      record {
        bad = ap (λ (x : Result Part Refusal). eqb (located_number x) 13) e ∙ bad_by o (fit (length log) used.len (length t)) (leb (length key) max_key);
        long = ap (λ (x : Result Part Refusal). eqb (located_number x) 4) e ∙ long_by o (fit (length log) used.len (length t)) (leb (length key) max_key);
        answer = λ g. e ∙ rw (rows_agree log t (mark_of used t) (record { agrees = g; count = refl }));
      }

  module _ {a : Result Mark Refusal} (ea : a ≡ entered_by log used t) where
    pub unversioned-bad : (r : Refusal) → a ≡ Err r → GetsUnversioned log used.len t key (Err r)
    unfolding unversioned_answer
    unversioned-bad r e = let w = refused_fits log used t a ea r e in keeps (rw (w.0, w.1))

    module _ (m : Mark) (e : a ≡ Ok m) where
      pub unversioned-long : max_key < length key → GetsUnversioned log used.len t key (Err KeyTooLong)
      unfolding unversioned_answer
      unversioned-long k = keeps (rw ((in_fits log used t a ea m e).0, lt-leb (length key) max_key k))

      module _ (k : length key ≤ max_key) {c : Code} (w : Codes c (encode (unversioned key))) (f : Result Spot Spot)
          (ef : placed f (rows log t m) ≡ place_by (take c.len c.bytes) (rows log t m)) where
        found : {r : Result Part Refusal} → r ≡ row_located (look_row (take c.len c.bytes) (rows log t m)) → GetsUnversioned log used.len t key r
        unfolding unversioned_answer
        found q =
            let z = in_fits log used t a ea m e in
            keeps (q ∙ rw (z.0, le-leb (length key) max_key k) (λ j. row_located (look_row (w.says j) (rows log t (z.1 j)))))

        pub unversioned-at : (p : Spot) {x : Part} → f ≡ Ok p → x ≡ value_place (row_at p (rows log t m)) → GetsUnversioned log used.len t key (Ok x)
        unversioned-at p q ex = found (rw (found_row (take c.len c.bytes) (rows log t m) ef p q) (ap Ok ex))

        pub unversioned_absent : (p : Spot) → f ≡ Err p → GetsUnversioned log used.len t key (Err Absent)
        unversioned_absent p q = found (rw (absent_row (take c.len c.bytes) (rows log t m) ef p q))

-- ---- what it shows

module _ (log : List ℕ) where
  shown-at : (o : Option Row) → ((r : Row) → o ≡ Some r → Stands log r) → (f b : Bool) (p : Part)
      → pick f (pick b (row_located o) (Err KeyTooLong)) (Err BadRequest) ≡ Ok p → row_value o ≡ Some (take p.len (drop p.at log))
  shown-at (Some r) s true true p e =
      let q : value_place r ≡ p = cc in
      ap Some (sym (s r refl).value) ∙ ap (λ (x : Part). Some (take x.len (drop x.at log))) q
  shown-at None s true true p e = nope (cc)
  shown-at o s true false p e = nope (cc)
  shown-at o s false b p e = nope (cc)

  shown-none : (o : Option Row) (f b : Bool) → pick f (pick b (row_located o) (Err KeyTooLong)) (Err BadRequest) ≡ Err Absent → row_value o ≡ None
  shown-none (Some r) true true e = nope (cc)
  shown-none None true true e = refl
  shown-none o true false e = nope (cc)
  shown-none o false b e = nope (cc)

module _ {log : List ℕ} {used : ℕ} {t key : List ℕ} {r : Result Part Refusal} (a : Agrees log used t) (w : GetsUnversioned log used t key r) where
  -- the bytes at the place are the key's value in the map
  pub unversioned-shows : (p : Part) → r ≡ Ok p → look_in (encode (unversioned key)) (map_of log used) ≡ Some (take p.len (drop p.at log))
  unfolding unversioned_answer
  unversioned-shows p e =
      sym (look_in_lem log used (encode (unversioned key)))
      ∙ shown-at log (look_row (encode (unversioned key)) (rows_in log used)) (look_stands log used (encode (unversioned key)))
      (fit (length log) used (length t)) (leb (length key) max_key) p (sym (w.answer a) ∙ e)

  pub unversioned-none : r ≡ Err Absent → look_in (encode (unversioned key)) (map_of log used) ≡ None
  unfolding unversioned_answer
  unversioned-none e =
      sym (look_in_lem log used (encode (unversioned key)))
      ∙ shown-none log (look_row (encode (unversioned key)) (rows_in log used)) (fit (length log) used (length t)) (leb (length key) max_key) (sym (w.answer a) ∙ e)
