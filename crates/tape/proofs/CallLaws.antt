-- Laws of the commands: the call that each makes is a step of the world, and its record stands at the front of the lent buffer.
-- Assumes nothing.
use Prim.Native.Nat.{ℕ}
use mathlib.Core.Path.{◌≡◌, sym, ap, ◌∙◌, subst}
use mathlib.Core.Bool.{Bool}
use mathlib.Core.List.{List}
use lib.ListN.{length}
use borrow.Author.Tests.{eq-eqb, ne_eqb}
use Rattle.std.specs.Prelude.{Result, Ok, Err, None, Some}
use Rattle.std.specs.Result.{result_unwrap_or, is_ok}
use Rattle.bitcask.specs.declared.request.Used.{Used}
use Rattle.keycode.specs.declared.refusal.Refusal.{Refusal}
use Rattle.keycode.specs.declared.parts.Part.{Part}
use Rattle.bitcask.specs.declared.report.Counts.{Counts}
use Rattle.keycode.specs.Buffer.{put}
use Rattle.keycode.specs.Limits.{max_open}
use Rattle.bitcask.specs.recovery.Promises.{changed_number}
use Rattle.bitcask.specs.compaction.Promises.{Compacts, Counting}
use Rattle.mvcc.specs.declared.handle.Handle.{Handle}
use Rattle.mvcc.specs.payload.Payloads.{value_bytes}
use Rattle.mvcc.specs.declared.begun.Begun.{Begun}
use Rattle.mvcc.specs.start.Promises.{Begins}
use Rattle.mvcc.specs.read_only.Promises.{BeginsReading}
use Rattle.mvcc.specs.as_of.Promises.{BeginsAsOf}
use Rattle.mvcc.specs.read.Promises.{Gets}
use Rattle.mvcc.specs.write.Promises.{Writes}
use Rattle.mvcc.specs.end.Promises.{Commits, RollsBack}
use Rattle.mvcc.specs.world.World.{World}
use Rattle.mvcc.specs.world.Steps.{used_by, is_done, Step, beginning, beginning_reading, beginning_as_of, getting, setting, deleting, committing, rolling_back, counting}
use Rattle.tape.specs.declared.format.request.Request.{Request}
use Rattle.tape.specs.format.Layout.{record_len, plainly}
use Rattle.tape.specs.Answers.{given_bytes, filled_with, got_bytes, emptied_by, used_bytes, count_bytes}
use Rattle.tape.specs.Turns.{start_call, start_used, write_call, end_call, Started, started, Looked, looked, Written, written, Ended, ended, Tidied, tidied, Told, told, world_of}
use Rattle.tape.specs.Promises.{Lays}
use Rattle.tape.proofs.AnswerLaws.{given-long, got-long, changed_long, used-long, count_long}

-- ---- the calls

module _ (log : List ℕ) (used : ℕ) (t : List ℕ) (c : ℕ) where
  pub begun-writing : (v : ℕ) {r : Begun} {log' t' : List ℕ} → c ≡ 1 → Begins log used t r log' t'
      → Step (world_of log used t) (start_call c v r) (world_of log' (start_used c r.answer used) t')
  unfolding start_call start_used
  begun-writing v e b = rw (eq-eqb c 1 e) (beginning b)

  pub begun_reading : (v : ℕ) {r : Begun} → (c ≡ 1 → ⊥) → c ≡ 2 → BeginsReading log used t r
      → Step (world_of log used t) (start_call c v r) (world_of log (start_used c r.answer used) t)
  unfolding start_call start_used
  begun_reading v n e b = rw (ne_eqb c 1 n, eq-eqb c 2 e) (beginning_reading b)

  pub begun_as_of : (v : ℕ) {r : Begun} → (c ≡ 1 → ⊥) → (c ≡ 2 → ⊥) → BeginsAsOf log used t v r
      → Step (world_of log used t) (start_call c v r) (world_of log (start_used c r.answer used) t)
  unfolding start_call start_used
  begun_as_of v n m b = rw (ne_eqb c 1 n, ne_eqb c 2 m) (beginning_as_of b)

  module _ (h : Handle) (k v : List ℕ) {r : Result Used Refusal} {log' t' : List ℕ} where
    pub set_done : c ≡ 5 → Writes log used t h k (value_bytes (Some v)) (length v) r log' t' → Step (world_of log used t) (write_call c h k v r) (world_of log' (used_by r used) t')
    unfolding write_call
    set_done e b = rw (eq-eqb c 5 e) (setting b)

    pub delete_done : (c ≡ 5 → ⊥) → Writes log used t h k (value_bytes None) 0 r log' t' → Step (world_of log used t) (write_call c h k v r) (world_of log' (used_by r used) t')
    unfolding write_call
    delete_done n b = rw (ne_eqb c 5 n) (deleting b)

  module _ (h : Handle) {r : Result Used Refusal} {log' t' : List ℕ} where
    pub commit_done : c ≡ 8 → Commits log used t h r log' t' → Step (world_of log used t) (end_call c h r) (world_of log' (used_by r used) t')
    unfolding end_call
    commit_done e b = rw (eq-eqb c 8 e) (committing b)

    pub rollback_done : (c ≡ 8 → ⊥) → RollsBack log used t h r log' t' → Step (world_of log used t) (end_call c h r) (world_of log' (used_by r used) t')
    unfolding end_call
    rollback_done n b = rw (ne_eqb c 8 n) (rolling_back b)

-- the used length after commands 1 to 3
-- what `unwrap_or` and `is_ok` give
pub used-after : (a : Result Used Refusal) (used : Used) {u : Used} → u ≡ result_unwrap_or a used → u.len ≡ used_by a used.len
used-after (Ok x) used e = ap (λ (y : Used). y.len) e
used-after (Err r) used e = ap (λ (y : Used). y.len) e

pub done-is : (a : Result Used Refusal) {b : Bool} → b ≡ is_ok a → b ≡ is_done a
done-is (Ok x) e = e
done-is (Err r) e = e

pub used-writing : (c : ℕ) (a : Result Used Refusal) (used : ℕ) {u : ℕ} → c ≡ 1 → u ≡ used_by a used → u ≡ start_used c a used
unfolding start_used
used-writing c a used e f = f ∙ rw (eq-eqb c 1 e)

pub used_reading : (c : ℕ) (a : Result Used Refusal) (used : ℕ) → (c ≡ 1 → ⊥) → used ≡ start_used c a used
unfolding start_used
used_reading c a used n = rw (ne_eqb c 1 n)

-- ---- the records

module _ {w : World} (out : List ℕ) {out' : List ℕ} where
  pub start_lays : (slots : List ℕ) (q : Request) (a : Begun) {log t slots' : List ℕ} {u n : ℕ} → length a.handle.set ≡ max_open → Step w (start_call q.command q.version a) (world_of log n t)
      → u ≡ n → slots' ≡ filled_with slots q.slot a.answer a.handle → out' ≡ put out 0 (given_bytes q.command a.answer a.handle.version)
      → Lays (Started w slots q (world_of log u t) slots') out record_len out'
  start_lays slots q a {log} {t} {slots'} {u} {n} l s e f g =
      record {
        answers = given_bytes q.command a.answer a.handle.version;
        so = subst (λ (i : ℕ). Started w slots q (world_of log i t) slots' (given_bytes q.command a.answer a.handle.version)) (sym e)
            (subst (λ (x : List ℕ). Started w slots q (world_of log n t) x (given_bytes q.command a.answer a.handle.version)) (sym f) (started a l s));
        bytes = g;
        long = given-long q.command a.answer a.handle.version;
      }

  pub look-lays : {h : Handle} {key : List ℕ} {a : Result Part Refusal} → Gets w.log w.used w.table h key a → out' ≡ put out 0 (got_bytes w.log a) → Lays (Looked w h key) out record_len out'
  look-lays {a = a} s g = record { answers = got_bytes w.log a; so = looked a (getting s); bytes = g; long = got-long w.log a }

  pub write_lays : (h : Handle) (c : ℕ) (key value : List ℕ) (a : Result Used Refusal) {log t : List ℕ} {u n : ℕ} → Step w (write_call c h key value a) (world_of log n t) → u ≡ n
      → out' ≡ put out 0 (plainly (changed_number a) c) → Lays (Written w h c key value (world_of log u t)) out record_len out'
  write_lays h c key value a {log} {t} s e g =
      record {
        answers = plainly (changed_number a) c;
        so = subst (λ (i : ℕ). Written w h c key value (world_of log i t) (plainly (changed_number a) c)) (sym e) (written a s);
        bytes = g;
        long = changed_long c a;
      }

  pub end_lays : (h : Handle) (slots : List ℕ) (q : Request) (a : Result Used Refusal) {log t slots' : List ℕ} {u n : ℕ} → Step w (end_call q.command h a) (world_of log n t) → u ≡ n
      → slots' ≡ emptied_by slots q.slot a → out' ≡ put out 0 (plainly (changed_number a) q.command) → Lays (Ended w h slots q (world_of log u t) slots') out record_len out'
  end_lays h slots q a {log} {t} {slots'} {u} {n} s e f g =
      record {
        answers = plainly (changed_number a) q.command;
        so = subst (λ (i : ℕ). Ended w h slots q (world_of log i t) slots' (plainly (changed_number a) q.command)) (sym e)
            (subst (λ (x : List ℕ). Ended w h slots q (world_of log n t) x (plainly (changed_number a) q.command)) (sym f) (ended a s));
        bytes = g;
        long = changed_long q.command a;
      }

  pub tell_lays : {a : Result Counts Refusal} → Counting w.log w.used w.table a → out' ≡ put out 0 (count_bytes a) → Lays (Told w) out record_len out'
  tell_lays {a} s g = record { answers = count_bytes a; so = told a (counting s); bytes = g; long = count_long a }

pub tidy_lays : (out : List ℕ) {log : List ℕ} {used : ℕ} {t g : List ℕ} {a : Result Used Refusal} {t' g' out' : List ℕ} {u : ℕ} {o : Bool} → Compacts log used t g a t' g' → u ≡ used_by a used → o ≡ is_done a
    → out' ≡ put out 0 (used_bytes a) → Lays (Tidied log used t g u o t' g') out record_len out'
tidy_lays out {log} {used} {t} {g} {a} {t'} {g'} {u = u} {o = o} p e f h =
    record {
      answers = used_bytes a;
      so = subst (λ (i : ℕ). Tidied log used t g i o t' g' (used_bytes a)) (sym e) (subst (λ (b : Bool). Tidied log used t g (used_by a used) b t' g' (used_bytes a)) (sym f) (tidied a p));
      bytes = h;
      long = used-long a;
    }
