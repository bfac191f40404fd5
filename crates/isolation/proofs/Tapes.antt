-- Snapshot isolation of a tape: the theorems. Whatever records come, there is a run that comes to the same world (crate tape, `tape_runs`,
-- `tape_from_start`), and so the theorems of proofs/Isolation hold of its calls; here they are said of the bytes of each answer and of the
-- handle slots. R is the run up to a record, and a slot's handle is one that the run gave. Assumes nothing.
use Prim.Native.Nat.{ℕ, ◌≤◌}
use mathlib.Core.Path.{◌≡◌, refl, ap, ◌∙◌, subst}
use mathlib.Core.Bool.{Bool, true, false}
use mathlib.Core.Logic.{◌≢◌, ◌⊎◌}
use mathlib.Core.List.{List, [], ◌∷◌}
use native.Mathlib.Omega.{arith}
use lib.Dec.{eqb}
use lib.ListN.{length}
use borrow.Author.Tests.{le-leb}
use Rattle.std.specs.Prelude.{Result, Ok, Err, Option, None, Some}
use Rattle.bitcask.specs.declared.request.Used.{Used}
use Rattle.keycode.specs.declared.refusal.Refusal.{Refusal}
use Rattle.keycode.specs.Tests.{pick}
use Rattle.keycode.specs.Limits.{max_key, max_value}
use Rattle.keycode.specs.declared.refusal.Refusal.TheVariants.{ReadOnly}
use Rattle.bitcask.specs.recovery.Recover.{map_of}
use Rattle.bitcask.specs.recovery.Promises.{changed_number}
use Rattle.bitcask.specs.change.Append.{append_answer}
use Rattle.bitcask.specs.compaction.Promises.{counts_of}
use Rattle.mvcc.specs.declared.handle.Handle.{Handle}
use Rattle.mvcc.specs.handle.Handles.{handle_of}
use Rattle.mvcc.specs.payload.Payloads.{value_bytes}
use Rattle.mvcc.specs.declared.begun.Begun.{Begun}
use Rattle.mvcc.specs.start.Plan.{begin_plan}
use Rattle.mvcc.specs.write.Writes.{plan}
use Rattle.mvcc.specs.end.Plans.{commit_plan, rollback_plan}
use Rattle.mvcc.specs.world.World.{World, begins, sets, deletes, Calls}
use Rattle.mvcc.specs.world.Steps.{Step}
use Rattle.mvcc.specs.world.Runs.{After, Gave, Given, Run}
use Rattle.tape.specs.declared.format.request.Request.{Request}
use Rattle.tape.specs.format.Layout.{laid, plainly}
use Rattle.tape.specs.format.Slots.{fill}
use Rattle.tape.specs.Answers.{given_bytes, filled_with, emptied_by, used_bytes, count_bytes}
use Rattle.tape.specs.Turns.{start_call, write_call, end_call, Started, started, Looked, looked, Written, written, Scanned, Ended, ended, Tidied, tidied, Told, told}
use Rattle.tape.proofs.MeantLaws.{Means, means}
use Rattle.isolation.specs.history.History.{Key, Bytes, unborn, opened, status}
use Rattle.isolation.specs.Meaning.{meaning}
use Rattle.isolation.specs.Views.{Usable, Sees, Meets, Stands, Starts, ended_in, compacted_in}
use Rattle.isolation.specs.Listed.{Lists, written_by, value_shown}
use Rattle.isolation.proofs.Isolation.{get_shows, begin_answers, reading_answers, as_of_answers, as_of_refused, compact_answers, count-answers, commit_exact, rollback_exact}
use Rattle.isolation.proofs.Isolation.{write_refused, write_conflicts}
use Rattle.isolation.proofs.TapeLaws.{value-shown, scan_lists}

module _ {w : World} {T : Calls} (R : Run true w T) where
  -- Command 1: the answer of a begin, and the slot filled where it is 0.
  pub tape_begins : {slots : List ℕ} {q : Request} {w' : World} {s x : List ℕ} → q.command ≡ 1 → Started w slots q w' s x
      → (a : Begun) × ((x ≡ given_bytes 1 a.answer a.handle.version) × ((s ≡ filled_with slots q.slot a.answer a.handle)
      × ((n : ℕ) × ((vs : List ℕ) × (Stands T n vs × Starts n vs (append_answer w.log w.used (length w.table) (begin_plan n vs)) a)))))
  unfolding start_call
  tape_begins {q = q} {w' = w'} e (started a l p) =
      let m = means (subst (λ (c : ℕ). Step w (start_call c q.version a) w') e p) in
      (a, (ap (λ (c : ℕ). given_bytes c a.answer a.handle.version) e, (refl, begin_answers R m.so)))

  -- Command 2: 0 always.
  pub tape_reads : {slots : List ℕ} {q : Request} {w' : World} {s x : List ℕ} → q.command ≡ 2 → Started w slots q w' s x
      → (n : ℕ) × ((vs : List ℕ) × (Stands T n vs × ((x ≡ laid 0 2 (handle_of n true vs).version [] []) × (s ≡ fill slots q.slot (handle_of n true vs)))))
  unfolding start_call
  tape_reads {slots} {q = q} {w' = w'} e (started a l p) =
      let m = means (subst (λ (c : ℕ). Step w (start_call c q.version a) w') e p) in
      let r = reading_answers R m.0 in (
        r.0,
        (
          r.1.0,
          (
            r.1.1.0,
            (
              ap (λ (c : ℕ). given_bytes c a.answer a.handle.version) e ∙ ap (λ (b : Begun). given_bytes 2 b.answer b.handle.version) r.1.1.1,
              ap (λ (b : Begun). filled_with slots q.slot b.answer b.handle) r.1.1.1,
            ),
          ),
        ),
      )

  -- Command 3: 0 exactly for 0 and for a version that began, else 10.
  pub tape_as_of : {slots : List ℕ} {q : Request} {w' : World} {s x : List ℕ} → q.command ≡ 3 → (q.version ≡ 0) ⊎ (status (meaning T) q.version ≢ unborn) → Started w slots q w' s x
      → (a : Begun) × ((changed_number a.answer ≡ 0) × (x ≡ given_bytes 3 a.answer a.handle.version))
  unfolding start_call
  tape_as_of {q = q} {w' = w'} e b (started a l p) =
      let m = means (subst (λ (c : ℕ). Step w (start_call c q.version a) w') e p) in
      (a, (as_of_answers R b m.0, ap (λ (c : ℕ). given_bytes c a.answer a.handle.version) e))

  pub tape_as_of_refused : {slots : List ℕ} {q : Request} {w' : World} {s x : List ℕ} → q.command ≡ 3 → q.version ≢ 0 → status (meaning T) q.version ≡ unborn → Started w slots q w' s x
      → (x ≡ plainly 10 3) × (s ≡ slots)
  unfolding start_call
  tape_as_of_refused {slots} {q = q} {w' = w'} e n b (started a l p) =
      let m = means (subst (λ (c : ℕ). Step w (start_call c q.version a) w') e p) in
      let r = as_of_refused R n b m.0 in (
        ap (λ (c : ℕ). given_bytes c a.answer a.handle.version) e ∙ ap (λ (b : Begun). given_bytes 3 b.answer b.handle.version) r,
        ap (λ (b : Begun). filled_with slots q.slot b.answer b.handle) r,
      )

  -- Command 4: the value that the handle is to see, or 1.
  pub tape_gets : {h : Handle} {f : Key → Option Bytes} {k x : List ℕ} → Sees T h f → Usable T h → length k ≤ max_key → Looked w h k x → x ≡ value_shown (f k)
  tape_gets {f = f} {k = k} s u l (looked a p) = value-shown w.log a (f k) (get_shows R s u l (means p).0)

  -- Commands 5 and 6: Conflict exactly in its case, else what the room says.
  pub tape_writes : {T₁ : Calls} {b : Begun} {h : Handle} → After (begins b ∷ T₁) T → Gave b h → status (meaning T) h.version ≡ opened → {c : ℕ} {k v : List ℕ} {w' : World} {x : List ℕ}
      → length k ≤ max_key → length v ≤ max_value → Written w h c k v w' x
      → (a : Result Used Refusal) × ((x ≡ plainly (changed_number a) c) × Meets T h k (append_answer w.log w.used (length w.table) (plan h.version k (value_bytes (written_by c v)))) a)
  unfolding write_call
  tape_writes {h = h} f g is {c} {k} {v} {w'} l z (written a p) = (a, (refl, go (eqb c 5) (means p)))
    where
      go : (b : Bool) → Means w (pick b (sets h k v a) (deletes h k a)) w'
          → Meets T h k (append_answer w.log w.used (length w.table) (plan h.version k (value_bytes (pick b (Some v) None)))) a
      go true m = write_conflicts R f g is l (Some v) z m.so
      go false m = write_conflicts R f g is l None (omega arith) m.so

  -- With a read-only handle they answer 2.
  pub tape_writes_not : {h : Handle} → Given h T → h.read_only ≡ true → {c : ℕ} {k v : List ℕ} {w' : World} {x : List ℕ} → Written w h c k v w' x → x ≡ plainly 2 c
  unfolding write_call
  tape_writes_not {h} g e {c} {k} {v} {w'} (written a p) = ap (λ (b : Result Used Refusal). plainly (changed_number b) c) (go (eqb c 5) (means p))
    where
      go : (b : Bool) → Means w (pick b (sets h k v a) (deletes h k a)) w' → a ≡ Err ReadOnly
      go true m = write_refused R g e m.so
      go false m = write_refused R g e m.so

  -- Command 7: every pair that the handle is to see, in the order of the keys.
  pub tape_scans : {h : Handle} {f : Key → Option Bytes} → Sees T h f → Usable T h → {prefix : Key} {room : ℕ} {x : List ℕ} → length prefix ≤ max_key → Scanned w h prefix room false [] 0 x
      → Lists f prefix room false [] 0 x
  tape_scans s u {prefix} {room} l p = scan_lists R s u prefix l room (rw (le-leb (length prefix) max_key l)) p

  -- Commands 8 and 9: 7 exactly where the tombstones do not fit the log, else 0 and the slot is emptied.
  module _ {h : Handle} (g : Given h T) (u : Usable T h) {slots : List ℕ} {q : Request} where
    pub tape_commits : {w' : World} {s x : List ℕ} → q.command ≡ 8 → Ended w h slots q w' s x
        → (x ≡ plainly (changed_number (ended_in w (commit_plan h (map_of w.log w.used)))) 8) × (s ≡ emptied_by slots q.slot (ended_in w (commit_plan h (map_of w.log w.used))))
    unfolding end_call
    tape_commits {w'} e (ended a p) =
        let m = means (subst (λ (c : ℕ). Step w (end_call c h a) w') e p) in
        let r = commit_exact R g u m.so in
        (ap (plainly (changed_number a)) e ∙ ap (λ (b : Result Used Refusal). plainly (changed_number b) 8) r, ap (emptied_by slots q.slot) r)

    pub tape_rolls : {w' : World} {s x : List ℕ} → q.command ≡ 9 → Ended w h slots q w' s x
        → (x ≡ plainly (changed_number (ended_in w (rollback_plan h (map_of w.log w.used)))) 9) × (s ≡ emptied_by slots q.slot (ended_in w (rollback_plan h (map_of w.log w.used))))
    unfolding end_call
    tape_rolls {w'} e (ended a p) =
        let m = means (subst (λ (c : ℕ). Step w (end_call c h a) w') e p) in
        let r = rollback_exact R g u m.so in
        (ap (plainly (changed_number a)) e ∙ ap (λ (b : Result Used Refusal). plainly (changed_number b) 9) r, ap (emptied_by slots q.slot) r)

  -- Command 10: the used length of the live entries, 7 where they do not fit the other buffer; command 11: how many keys are live.
  pub tape_compacts : {spare : List ℕ} {u : ℕ} {d : Bool} {t g x : List ℕ} → Tidied w.log w.used w.table spare u d t g x → x ≡ used_bytes (compacted_in w (length spare))
  tape_compacts (tidied a p) = ap used_bytes (compact_answers R p)

  pub tape_counts : {x : List ℕ} → Told w x → x ≡ count_bytes (Ok (counts_of (map_of w.log w.used) w.used))
  tape_counts (told a p) = ap count_bytes (count-answers R (means p).0)
