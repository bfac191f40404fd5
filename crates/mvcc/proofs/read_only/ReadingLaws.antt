-- The read-only begin: its answer by what the code has seen, and its promise. Assumes nothing.
use Prim.Native.Nat.{ℕ, ◌+◌, ◌≤◌, ◌<◌}
use mathlib.Core.Path.{◌≡◌, refl, ap, ◌∙◌}
use mathlib.Core.Bool.{Bool, true, false}
use mathlib.Core.List.{List, []}
use native.Mathlib.Decide.{dec_le}
use native.Mathlib.Omega.{arith}
use lib.Dec.{leb, eqb}
use lib.ListN.{length}
use borrow.Author.Tests.{le-leb, lt-leb}
use Rattle.std.specs.Prelude.{Result, Ok, Err, Option, ℕ, Some, None}
use Rattle.keycode.specs.Tests.{pick, if_done}
use Rattle.keycode.specs.Limits.{max_open}
use Rattle.keycode.specs.declared.refusal.Refusal.{Refusal}
use Rattle.keycode.specs.declared.refusal.Refusal.TheVariants.{TooManyOpen, BadStore, BadRequest}
use Rattle.keycode.proofs.Basics.{nope}
use Rattle.keycode.proofs.NumberLaws.{Bytes}
use Rattle.bitcask.specs.declared.request.Used.{Used}
use Rattle.bitcask.specs.recovery.Recover.{map_of}
use Rattle.bitcask.specs.declared.engine.mark.Mark.{Mark}
use Rattle.bitcask.specs.engine.Rows.{rows}
use Rattle.bitcask.specs.engine.Marks.{entered_by}
use Rattle.bitcask.proofs.engine.SpotLaws.{in_fits, in_agreeing, refused_fits}
use Rattle.mvcc.specs.handle.Handles.{handle_of, blank_handle}
use Rattle.mvcc.proofs.handle.HandleLaws.{made_all}
use Rattle.mvcc.specs.declared.snapshot.Seen.{Seen}
use Rattle.mvcc.specs.declared.begun.Begun.{Begun}
use Rattle.mvcc.specs.snapshot.Active.{next_in, next_at, versions_in, keys_in, active_rows, active_at, seen_from, seen_by}
use Rattle.mvcc.specs.request.Given.{refused_by, begun_with, begun_number}
use Rattle.mvcc.specs.read_only.Answers.{reading_by}
use Rattle.mvcc.specs.read_only.Promises.{BeginsReading}
use Rattle.mvcc.proofs.snapshot.AgreedLaws.{next-agrees, active_agrees}

-- the answer by what was seen
abbrev reading_of : ℕ → Option Seen → Begun
reading_of used None = refused_by BadStore
reading_of used (Some s) = pick (leb s.tally max_open) (begun_with used s.handle) (refused_by TooManyOpen)

reading_seen : (used : ℕ) (v : Option ℕ) (o : Option (List ℕ)) → reading_of used (seen_by true v o) ≡ reading_by used v o
unfolding seen_from
reading_seen used None o = refl
reading_seen used (Some v) None = refl
reading_seen used (Some v) (Some vs) = go (dec_le (length vs) max_open)
  where
    go : Dec (length vs ≤ max_open) → reading_of used (seen_by true (Some v) (Some vs)) ≡ reading_by used (Some v) (Some vs)
    go (yes h) = let z : 0 + length vs ≡ length vs = omega arith in rw (z, le-leb (length vs) max_open h, made_all v true [] vs (omega arith))
    go (no h) = let z : 0 + length vs ≡ length vs = omega arith in rw (z, lt-leb (length vs) max_open (omega arith))

-- every refusal comes with a blank handle, and none is 13
reading_blank : (used : ℕ) (v : Option ℕ) (o : Option (List ℕ))
    → ((reading_by used v o).handle ≡ if_done (begun_number (reading_by used v o)) (reading_by used v o).handle blank_handle) × (eqb (begun_number (reading_by used v o)) 13 ≡ false)
reading_blank used None o = (refl, refl)
reading_blank used (Some v) None = (refl, refl)
reading_blank used (Some v) (Some vs) = go (leb (length vs) max_open)
  where
    go : (b : Bool)
        → ((pick b (begun_with used (handle_of v true vs)) (refused_by TooManyOpen)).handle
        ≡ if_done (begun_number (pick b (begun_with used (handle_of v true vs)) (refused_by TooManyOpen))) (pick b (begun_with used (handle_of v true vs)) (refused_by TooManyOpen)).handle blank_handle)
        × (eqb (begun_number (pick b (begun_with used (handle_of v true vs)) (refused_by TooManyOpen))) 13 ≡ false)
    go true = (refl, refl)
    go false = (refl, refl)

module _ (log : List ℕ) (used : Used) (t : List ℕ) {a : Result Mark Refusal} (ea : a ≡ entered_by log used t) {r : Begun} where
  pub reading_sizes : (x : Refusal) → a ≡ Err x → r ≡ refused_by x → BeginsReading log used.len t r
  reading_sizes x e q =
      let w = refused_fits log used t a ea x e in
      let z : r ≡ refused_by BadRequest = q ∙ ap refused_by w.1 in
      rw z (record { blank = refl; bad = rw w.0; answer = λ g. nope (cc (g.sound, w.0)) })

  module _ (m : Mark) (e : a ≡ Ok m) (b : Bytes log) {s : Option Seen}
      (seen : s ≡ seen_by true (next_in (rows log t m)) (versions_in (keys_in (active_rows (rows log t m))))) where
    reading_made : r ≡ reading_of used.len s → BeginsReading log used.len t r
    reading_made y =
        let v = next_in (rows log t m) in
        let o = versions_in (keys_in (active_rows (rows log t m))) in
        let f = in_fits log used t a ea m e in
        let u : m.used.len ≡ used.len = ap (λ (k : Mark). k.used.len) f.1 in
        let q : r ≡ reading_by used.len v o = y ∙ rw seen (reading_seen used.len v o) in
        let z = reading_blank used.len v o in
        rw q
        (record {
          blank = z.0;
          bad = z.1 ∙ rw f.0;
          answer = λ g. let h = in_agreeing log used t a ea m e g in
              ap (λ (x : Option ℕ). reading_by used.len x o) (next-agrees log t m h) ∙ ap (reading_by used.len (next_at (map_of log m.used.len))) (active_agrees log t m h b)
              ∙ ap (λ (n : ℕ). reading_by used.len (next_at (map_of log n)) (active_at (map_of log n))) u;
        })

    pub reading_bad : s ≡ None → r ≡ refused_by BadStore → BeginsReading log used.len t r
    reading_bad y q = reading_made (q ∙ rw y)

    module _ (k : Seen) (y : s ≡ Some k) where
      pub reading_many : max_open < k.tally → r ≡ refused_by TooManyOpen → BeginsReading log used.len t r
      reading_many h q = reading_made (q ∙ rw (y, lt-leb k.tally max_open h))

      pub reading_done : k.tally ≤ max_open → r ≡ begun_with used.len k.handle → BeginsReading log used.len t r
      reading_done h q = reading_made (q ∙ rw (y, le-leb k.tally max_open h))
