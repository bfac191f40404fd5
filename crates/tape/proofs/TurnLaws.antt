-- Laws of a record's turn: from the command that was carried out to the record, and from the log first to the buffers as they were lent.
-- Assumes nothing.
use Prim.Native.Nat.{ℕ, ◌/◌, ◌<◌, ◌≤◌}
use mathlib.Core.Path.{◌≡◌, refl, sym, ap, ◌∙◌, subst}
use mathlib.Core.Bool.{Bool, true, false, not}
use mathlib.Core.List.{List, []}
use lib.ListN.{length, take, drop}
use borrow.Author.Tests.{eq-eqb, ne_eqb, le-leb, lt-leb}
use Rattle.std.specs.Prelude.{Ok, Err}
use Rattle.keycode.specs.Buffer.{put}
use Rattle.keycode.specs.declared.refusal.Refusal.TheVariants.{BadRequest}
use Rattle.bitcask.specs.declared.request.Used.{Used}
use Rattle.mvcc.specs.declared.handle.Handle.{Handle}
use Rattle.tape.specs.declared.format.request.Request.{Request}
use Rattle.tape.specs.format.Layout.{record_len, key_at, value_at, plainly}
use Rattle.tape.specs.format.Requests.{fields_of, key_in, value_in}
use Rattle.tape.specs.format.Slots.{all_words, handle_at}
use Rattle.tape.proofs.format.LayoutLaws.{plainly-long}
use Rattle.tape.specs.declared.state.Turn.{Turn}
use Rattle.tape.specs.Turns.{Started, Looked, Written, Scanned, Ended, Tidied, Told, Held, looking, writing, scanning, ending, Bench, world_of, bench_of, swapped, Carried, starting, holding, tidying, telling, admitted, Turned, short, bad, good}
use Rattle.tape.specs.Promises.{Lays, lent_well, Lent, Takes}

lays-map : {P Q : List ℕ → Type 0} {out : List ℕ} {n : ℕ} {out' : List ℕ} → ((x : List ℕ) → P x → Q x) → Lays P out n out' → Lays Q out n out'
lays-map f l = record { answers = l.answers; so = f l.answers l.so; bytes = l.bytes; long = l.long }

-- one record, and the log where it was
abbrev one : Used → Turn
one u = record { used = u; other = false; len = record_len }

-- ---- commands 4 to 9

module _ (log : List ℕ) (used : Used) (t slots : List ℕ) (q : Request) (key value : List ℕ) (room : ℕ) (out out' : List ℕ) {h : Handle} (eh : h ≡ handle_at slots q.slot) where
  abbrev HeldBy : List ℕ → List ℕ → List ℕ → Turn → Type 0
  HeldBy log' t' slots' r = (r.other ≡ false) × Lays (Held (world_of log used.len t) slots q key value room (world_of log' r.used.len t') slots') out r.len out'

  pub held_look : {r : Turn} → q.command ≡ 4 → Lays (Looked (world_of log used.len t) h key) out record_len out' → r ≡ one used → HeldBy log t slots r
  held_look {r} c l e =
      subst (HeldBy log t slots) (sym e) (refl, lays-map (λ x p. looking c (subst (λ (i : Handle). Looked (world_of log used.len t) i key x) eh p)) l)

  pub held_scan : {n : ℕ} → q.command ≡ 7 → Lays (Scanned (world_of log used.len t) h key room false [] 0) out n out' → HeldBy log t slots (record { used = used; other = false; len = n })
  held_scan c l = (refl, lays-map (λ x p. scanning c (subst (λ (i : Handle). Scanned (world_of log used.len t) i key room false [] 0 x) eh p)) l)

  pub held_write : {r : Turn} {u : Used} {log' t' : List ℕ} → 5 ≤ q.command → q.command ≤ 6
      → Lays (Written (world_of log used.len t) h q.command key value (world_of log' u.len t')) out record_len out' → r ≡ one u → HeldBy log' t' slots r
  held_write {r} {u} {log'} {t'} c d l e =
      subst (HeldBy log' t' slots) (sym e)
      (refl, lays-map (λ x p. writing c d (subst (λ (i : Handle). Written (world_of log used.len t) i q.command key value (world_of log' u.len t') x) eh p)) l)

  pub held_end : {r : Turn} {u : Used} {log' t' slots' : List ℕ} → 8 ≤ q.command → q.command ≤ 9
      → Lays (Ended (world_of log used.len t) h slots q (world_of log' u.len t') slots') out record_len out' → r ≡ one u → HeldBy log' t' slots' r
  held_end {r} {u} {log'} {t'} {slots'} c d l e =
      subst (HeldBy log' t' slots') (sym e)
      (refl, lays-map (λ x p. ending c d (subst (λ (i : Handle). Ended (world_of log used.len t) i slots q (world_of log' u.len t') slots' x) eh p)) l)

-- ---- all commands

-- the log first: done, a compaction leaves it second
swap_bench : (done : Bool) (log spare : List ℕ) (used : ℕ) (t slots g : List ℕ) (u : ℕ) (t' : List ℕ) → swapped (bench_of false log spare used t slots) done g u t' ≡ bench_of done log g u t' slots
swap_bench true log spare used t slots g u t' = refl
swap_bench false log spare used t slots g u t' = refl

module _ (log spare : List ℕ) (used : Used) (t slots : List ℕ) (q : Request) (key value : List ℕ) (room : ℕ) (out out' : List ℕ) where
  abbrev CarriedBy : List ℕ → List ℕ → List ℕ → List ℕ → Turn → Type 0
  CarriedBy log' spare' t' slots' r =
      Lays (Carried (bench_of false log spare used.len t slots) q key value room (bench_of r.other log' spare' r.used.len t' slots')) out r.len out'

  pub carry_start : {r : Turn} {u : Used} {log' t' slots' : List ℕ} → q.command ≤ 3 → Lays (Started (world_of log used.len t) slots q (world_of log' u.len t') slots') out record_len out' → r ≡ one u
      → CarriedBy log' spare t' slots' r
  carry_start {r} {u} {log'} {t'} {slots'} c l e = subst (CarriedBy log' spare t' slots') (sym e) (lays-map (λ x p. starting c p) l)

  pub carry_held : {r : Turn} {log' t' slots' : List ℕ}
      → (r.other ≡ false) × Lays (Held (world_of log used.len t) slots q key value room (world_of log' r.used.len t') slots') out r.len out' → CarriedBy log' spare t' slots' r
  carry_held {r} {log'} {t'} {slots'} h =
      subst (λ (o : Bool). Lays (Carried (bench_of false log spare used.len t slots) q key value room (bench_of o log' spare r.used.len t' slots')) out r.len out') (sym h.0)
      (lays-map (λ x p. holding p) h.1)

  pub carry_tidy : {r : Turn} {t' spare' : List ℕ} → q.command ≡ 10 → Lays (Tidied log used.len t spare r.used.len r.other t' spare') out r.len out' → CarriedBy log spare' t' slots r
  carry_tidy {r} {t'} {spare'} c l =
      subst (λ (b : Bench). Lays (Carried (bench_of false log spare used.len t slots) q key value room b) out r.len out') (swap_bench r.other log spare used.len t slots spare' r.used.len t')
      (lays-map (λ x p. tidying c p) l)

  pub carry_tell : {r : Turn} → q.command ≡ 11 → Lays (Told (world_of log used.len t)) out record_len out' → r ≡ one used → CarriedBy log spare t slots r
  carry_tell c l e = subst (CarriedBy log spare t slots) (sym e) (lays-map (λ x p. telling c p) l)

-- ---- a record

module _ (log spare : List ℕ) (used : Used) (t slots r : List ℕ) (room : ℕ) (out out' : List ℕ) where
  abbrev TurnedBy : List ℕ → List ℕ → List ℕ → List ℕ → Turn → Type 0
  TurnedBy log' spare' t' slots' a =
      Lays (Turned (bench_of false log spare used.len t slots) r room (bench_of a.other log' spare' a.used.len t' slots')) out a.len out'

  pub turn-short : {a : Turn} → (length r ≡ record_len → ⊥) → out' ≡ put out 0 (plainly 13 0) → a ≡ one used → TurnedBy log spare t slots a
  turn-short n g e =
      subst (TurnedBy log spare t slots) (sym e)
      (record { answers = plainly 13 0; so = short (ne_eqb (length r) record_len n); bytes = g; long = sym (plainly-long 13 0) })

  module _ (q : Request) (long : length r ≡ record_len) {b : Bool} (eq : q ≡ fields_of r) (eb : b ≡ admitted r slots) where
    pub turn-bad : {a : Turn} → b ≡ false → out' ≡ put out 0 (plainly 13 q.command) → a ≡ one used → TurnedBy log spare t slots a
    turn-bad f g e =
        subst (TurnedBy log spare t slots) (sym e)
        (record {
          answers = plainly 13 (fields_of r).command;
          so = bad (eq-eqb (length r) record_len long) (sym eb ∙ f);
          bytes = g ∙ ap (λ (i : Request). put out 0 (plainly 13 i.command)) eq;
          long = sym (plainly-long 13 (fields_of r).command);
        })

    pub turn-good : {key value : List ℕ} {n : ℕ} {c : Bench} → b ≡ true → key ≡ take q.klen (drop key_at r) → value ≡ take q.vlen (drop value_at r)
        → Lays (Carried (bench_of false log spare used.len t slots) q key value room c) out n out' → Lays (Turned (bench_of false log spare used.len t slots) r room c) out n out'
    unfolding key_in value_in
    turn-good {key} {value} {n} {c} f ek ev l =
        let k : key ≡ key_in r = ek ∙ ap (λ (i : Request). take i.klen (drop key_at r)) eq in
        let v : value ≡ value_in r = ev ∙ ap (λ (i : Request). take i.vlen (drop value_at r)) eq in
        lays-map
        (λ x p. good (eq-eqb (length r) record_len long) (sym eb ∙ f)
        (subst (λ (i : Request). Carried (bench_of false log spare used.len t slots) i (key_in r) (value_in r) room c x) eq
        (subst (λ (i : List ℕ). Carried (bench_of false log spare used.len t slots) q (key_in r) i room c x) v
        (subst (λ (i : List ℕ). Carried (bench_of false log spare used.len t slots) q i value room c x) k p))))
        l

-- ---- the buffers as they were lent

module _ (l : Lent) (used : ℕ) (other : Bool) (r : List ℕ) where
  pub take_short : length l.out < record_len → Takes l used other r (Err BadRequest) l
  unfolding lent_well
  take_short h = record { well = rw (lt-leb record_len (length l.out) h); turn = (refl, refl) }

  pub take-slots : record_len ≤ length l.out → (length l.slots ≡ all_words → ⊥) → Takes l used other r (Err BadRequest) l
  unfolding lent_well
  take-slots h n = record { well = rw (le-leb record_len (length l.out) h, ne_eqb (length l.slots) all_words n); turn = (refl, refl) }

well_lent : (l : Lent) → record_len ≤ length l.out → length l.slots ≡ all_words → true ≡ lent_well (length l.out) (length l.slots)
unfolding lent_well
well_lent l h e = rw (le-leb record_len (length l.out) h, eq-eqb (length l.slots) all_words e)

-- the two buffers told the other way round
abbrev flip : Bench → Bench
flip b = record { world = b.world; spare = b.spare; slots = b.slots; other = not b.other }

carried_flip : {b : Bench} {q : Request} {key value : List ℕ} {room : ℕ} {b' : Bench} {x : List ℕ} → Carried b q key value room b' x → Carried (flip b) q key value room (flip b') x
carried_flip (starting c p) = starting c p
carried_flip (holding p) = holding p
carried_flip (tidying {done = true} c p) = tidying c p
carried_flip (tidying {done = false} c p) = tidying c p
carried_flip (telling c p) = telling c p

turn-flip : {b : Bench} {r : List ℕ} {room : ℕ} {b' : Bench} {x : List ℕ} → Turned b r room b' x → Turned (flip b) r room (flip b') x
turn-flip (short e) = short e
turn-flip (bad e f) = bad e f
turn-flip (good e f p) = good e f (carried_flip p)

lays-flip : {b : Bench} {r : List ℕ} {room : ℕ} {b' : Bench} {out : List ℕ} {n : ℕ} {out' : List ℕ} → Lays (Turned b r room b') out n out' → Lays (Turned (flip b) r room (flip b')) out n out'
lays-flip l = lays-map (λ x p. turn-flip p) l

bench_flip : (o : Bool) (first second : List ℕ) (used : ℕ) (t slots : List ℕ) → flip (bench_of o second first used t slots) ≡ bench_of (not o) first second used t slots
bench_flip true first second used t slots = refl
bench_flip false first second used t slots = refl

module _ (l : Lent) (used : ℕ) {other : Bool} (r : List ℕ) (l' : Lent) (h : record_len ≤ length l.out) (e : length l.slots ≡ all_words) (a : Turn) where
  pub take-first : other ≡ false
      → Lays (Turned (bench_of false l.first l.second used l.table l.slots) r (length l.out / record_len) (bench_of a.other l'.first l'.second a.used.len l'.table l'.slots))
      l.out a.len l'.out
      → Takes l used other r (Ok a) l'
  take-first o p =
      subst (λ (b : Bool). Takes l used b r (Ok a) l') (sym o) (record { well = well_lent l h e; turn = p })

  pub take_second : other ≡ true
      → Lays (Turned (bench_of false l.second l.first used l.table l.slots) r (length l.out / record_len) (bench_of a.other l'.second l'.first a.used.len l'.table l'.slots))
      l.out a.len l'.out
      → Takes l used other r (Ok (record { used = a.used; other = not a.other; len = a.len })) l'
  take_second o p =
      subst (λ (b : Bool). Takes l used b r (Ok (record { used = a.used; other = not a.other; len = a.len })) l') (sym o)
      (record {
        well = well_lent l h e;
        turn = subst (λ (b : Bench). Lays (Turned (bench_of true l.first l.second used l.table l.slots) r (length l.out / record_len) b) l.out a.len l'.out)
            (bench_flip a.other l'.first l'.second a.used.len l'.table l'.slots) (lays-flip p);
      })
