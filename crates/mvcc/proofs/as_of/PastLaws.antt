-- As-of: the stored snapshot, the answer by what the code has read, and its promise. Assumes nothing.
use Prim.Native.Nat.{ℕ, ◌≤◌, ◌<◌}
use mathlib.Core.Path.{◌≡◌, refl, ap, ◌∙◌}
use mathlib.Core.Bool.{Bool, true, false}
use mathlib.Core.List.{List, []}
use lib.Dec.{leb, eqb}
use lib.ListN.{take}
use borrow.Author.Tests.{le-leb, lt-leb}
use Rattle.std.specs.Prelude.{Result, Ok, Err, Option, ℕ, Some, None}
use Rattle.keycode.specs.Tests.{pick, if_done}
use Rattle.keycode.specs.Refusals.{number_of}
use Rattle.keycode.specs.key.Keys.{encode, txn_active_snapshot}
use Rattle.keycode.specs.declared.refusal.Refusal.{Refusal}
use Rattle.keycode.specs.declared.refusal.Refusal.TheVariants.{TooManyOpen, NoSuchVersion, BadStore, BadRequest}
use Rattle.keycode.proofs.Basics.{nope}
use Rattle.keycode.proofs.BufferLaws.{refused_stays}
use Rattle.bitcask.specs.declared.request.Used.{Used}
use Rattle.bitcask.specs.recovery.Map.{look_in}
use Rattle.bitcask.specs.recovery.Recover.{map_of}
use Rattle.bitcask.specs.declared.engine.mark.Mark.{Mark}
use Rattle.bitcask.specs.declared.engine.spot.Spot.{Spot}
use Rattle.bitcask.specs.engine.Rows.{Row, rows}
use Rattle.bitcask.specs.engine.Marks.{entered_by}
use Rattle.bitcask.specs.engine.Spots.{row_at, placed, place_by, look_row, row_value}
use Rattle.bitcask.proofs.engine.LookLaws.{found_row, absent_row}
use Rattle.bitcask.proofs.engine.SpotLaws.{in_fits, in_agreeing, refused_fits}
use Rattle.keycode.specs.declared.code.Code.{Code}
use Rattle.mvcc.specs.declared.handle.Handle.{Handle}
use Rattle.keycode.specs.code.Codes.{Codes}
use Rattle.mvcc.specs.handle.Handles.{rising, handle_of, blank_handle}
use Rattle.mvcc.specs.payload.Payloads.{set_in, set_for, few_enough}
use Rattle.mvcc.specs.declared.begun.Begun.{Begun}
use Rattle.mvcc.specs.snapshot.Active.{next_in, next_at}
use Rattle.mvcc.specs.request.Given.{refused_by, begun_with, begun_number}
use Rattle.mvcc.specs.as_of.Answers.{snapshot_read, as_of_with, as_of_by}
use Rattle.mvcc.specs.as_of.Promises.{BeginsAsOf}
use Rattle.mvcc.proofs.snapshot.AgreedLaws.{look-agrees, next-agrees}

-- ---- the snapshot

module _ (rs : List Row) (v : ℕ) {c : Code} (w : Codes c (encode (txn_active_snapshot v))) (f : Result Spot Spot) (says : placed f rs ≡ place_by (take c.len c.bytes) rs)
    {h : Handle} (eh : h ≡ handle_of v true []) (p : Spot) where
  stored_row : look_row (take c.len c.bytes) rs ≡ look_row (encode (txn_active_snapshot v)) rs
  stored_row = ap (λ (k : List ℕ). look_row k rs) w.says

  pub stored_none : f ≡ Err p → Ok h ≡ snapshot_read v (row_value (look_row (encode (txn_active_snapshot v)) rs))
  unfolding snapshot_read
  stored_none e = rw (← stored_row, absent_row (take c.len c.bytes) rs says p e, eh)

  pub stored_some : f ≡ Ok p → {b : List ℕ} {r : Result Handle Refusal} → b ≡ (row_at p rs).value → r ≡ set_for h (set_in b) → r ≡ snapshot_read v (row_value (look_row (encode (txn_active_snapshot v)) rs))
  unfolding snapshot_read
  stored_some e eb er = rw (← stored_row, found_row (take c.len c.bytes) rs says p e, er, eb, eh)

-- ---- every refusal comes with a blank handle, and none is 13

set-number : (h : Handle) (o : Option (List ℕ)) (y : Refusal) → set_for h o ≡ Err y → eqb (number_of y) 13 ≡ false
unfolding set_for
set-number h None y e = let q : y ≡ BadStore = cc in rw q
set-number h (Some vs) y e = go (few_enough vs) (rising vs) e
  where
    go : (a b : Bool)
        → pick a (pick b (Ok (handle_of h.version h.read_only vs)) (Err BadStore)) (Err TooManyOpen) ≡ Err y
        → eqb (number_of y) 13 ≡ false
    go true true f = nope (cc)
    go true false f = let q : y ≡ BadStore = cc in rw q
    go false b f = let q : y ≡ TooManyOpen = cc in rw q

read_number : (v : ℕ) (p : Option (List ℕ)) (y : Refusal) → snapshot_read v p ≡ Err y → eqb (number_of y) 13 ≡ false
unfolding snapshot_read
read_number v None y e = nope (cc)
read_number v (Some p) y e = set-number (handle_of v true []) (set_in p) y e

abbrev Clear : Begun → Type 0
Clear r = (r.handle ≡ if_done (begun_number r) r.handle blank_handle) × (eqb (begun_number r) 13 ≡ false)

clear_with : (used : ℕ) (a : Result Handle Refusal) → ((y : Refusal) → a ≡ Err y → eqb (number_of y) 13 ≡ false) → Clear (as_of_with used a)
clear_with used (Ok h) f = (refl, refl)
clear_with used (Err y) f = (refused_stays y blank_handle blank_handle, f y refl)

clear : (used v : ℕ) (n : Option ℕ) (p : Option (List ℕ)) → Clear (as_of_by used v n p)
clear used v None p = (refl, refl)
clear used v (Some n) p = go (leb n v)
  where
    go : (b : Bool) → Clear (pick b (refused_by NoSuchVersion) (as_of_with used (snapshot_read v p)))
    go true = (refl, refl)
    go false = clear_with used (snapshot_read v p) (read_number v p)

-- ---- the promise

module _ (log : List ℕ) (used : Used) (t : List ℕ) (v : ℕ) {a : Result Mark Refusal} (ea : a ≡ entered_by log used t) where
  pub as_of_sizes : {r : Begun} (x : Refusal) → a ≡ Err x → r ≡ refused_by x → BeginsAsOf log used.len t v r
  as_of_sizes {r} x e q =
      let w = refused_fits log used t a ea x e in
      let z : r ≡ refused_by BadRequest = q ∙ ap refused_by w.1 in
      rw z (record { blank = refl; bad = rw w.0; answer = λ g. nope (cc (g.sound, w.0)) })

  module _ (m : Mark) (e : a ≡ Ok m) {x : Option ℕ} (ex : x ≡ next_in (rows log t m)) where
    abbrev stored : Option (List ℕ)
    stored = row_value (look_row (encode (txn_active_snapshot v)) (rows log t m))

    as_of_made : {r : Begun} → r ≡ as_of_by used.len v x stored → BeginsAsOf log used.len t v r
    as_of_made q =
        let z = clear used.len v x stored in
        let f = in_fits log used t a ea m e in
        rw q
        (record {
          blank = z.0;
          bad = z.1 ∙ rw f.0;
          answer = λ g. let h = in_agreeing log used t a ea m e g in
              (λ j. as_of_by used.len v ((ex ∙ next-agrees log t m h) j) (look-agrees log t m h (encode (txn_active_snapshot v)) j))
              ∙ ap (λ (k : Mark). as_of_by used.len v (next_at (map_of log k.used.len)) (look_in (encode (txn_active_snapshot v)) (map_of log k.used.len))) f.1;
        })

    pub as_of_bad : {r : Begun} → x ≡ None → r ≡ refused_by BadStore → BeginsAsOf log used.len t v r
    as_of_bad y q = as_of_made (q ∙ rw y)

    module _ (n : ℕ) (y : x ≡ Some n) where
      pub as_of_late : {r : Begun} → n ≤ v → r ≡ refused_by NoSuchVersion → BeginsAsOf log used.len t v r
      as_of_late h q = as_of_made (q ∙ rw (y, le-leb n v h))

      module _ (h : v < n) {s : Result Handle Refusal} (es : s ≡ snapshot_read v (row_value (look_row (encode (txn_active_snapshot v)) (rows log t m)))) where
        as_of_read : {r : Begun} → r ≡ as_of_with used.len s → BeginsAsOf log used.len t v r
        as_of_read q = as_of_made (q ∙ rw (y, lt-leb n v h, es))

        pub as_of_done : {r : Begun} (g : Handle) → s ≡ Ok g → r ≡ begun_with used.len g → BeginsAsOf log used.len t v r
        as_of_done g b q = as_of_read (q ∙ rw b)

        pub as_of_refused : {r : Begun} (z : Refusal) → s ≡ Err z → r ≡ refused_by z → BeginsAsOf log used.len t v r
        as_of_refused z b q = as_of_read (q ∙ rw b)
