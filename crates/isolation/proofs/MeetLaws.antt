-- Theorems: when a write meets Conflict, and what calls with the handle of a transaction that has ended answer. Assumes nothing.
use Prim.Native.Nat.{ℕ, suc, ◌≤◌}
use mathlib.Core.Path.{◌≡◌, refl, sym, ap, ◌∙◌}
use mathlib.Core.Bool.{Bool, true, false}
use mathlib.Core.List.{List, ◌∷◌}
use native.Mathlib.Omega.{arith}
use lib.Dec.{leb}
use lib.ListN.{length}
use borrow.Author.Tests.{le-ltb}
use Rattle.std.specs.Prelude.{Result, Ok, Err, Option, None, Some}
use Rattle.bitcask.specs.declared.request.Used.{Used}
use Rattle.keycode.specs.declared.refusal.Refusal.{Refusal}
use Rattle.keycode.specs.Limits.{max_key, max_value}
use Rattle.keycode.specs.declared.refusal.Refusal.TheVariants.{Absent, ReadOnly, NotOpen, KeyTooLong, ValueTooLong, Conflict, LogFull, TableFull, TooManyOpen, NoSuchVersion, VersionsSpent, BadStore, BadRequest}
use Rattle.keycode.proofs.Basics.{nope}
use Rattle.bitcask.specs.recovery.Promises.{changed_number}
use Rattle.bitcask.specs.change.Append.{append_answer}
use Rattle.mvcc.specs.declared.handle.Handle.{Handle}
use Rattle.mvcc.specs.payload.Payloads.{value_bytes}
use Rattle.mvcc.specs.declared.begun.Begun.{Begun}
use Rattle.mvcc.specs.write.Writes.{plan}
use Rattle.mvcc.specs.write.Promises.{Writes}
use Rattle.isolation.specs.history.History.{Key, Bytes, Clash, opened, status}
use Rattle.isolation.specs.history.Records.{Map}
use Rattle.isolation.specs.history.Calls.{conflict}
use Rattle.isolation.specs.history.Run.{too_long, write_number}
use Rattle.isolation.specs.history.Run as H
use Rattle.isolation.proofs.history.RunLaws.{conflict_right, write_open}
use Rattle.isolation.specs.records.Stored.{sight_of}
use Rattle.isolation.proofs.records.OrderLaws.{order}
use Rattle.mvcc.specs.world.World.{World, Calls, begins}
use Rattle.mvcc.specs.world.Runs.{After, Gave, by_begin}
use Rattle.isolation.specs.Meaning.{meaning}
use Rattle.isolation.specs.Views.{Meets, clashes, free, size_in}
use Rattle.isolation.proofs.GivenLaws.{began_trace}
use Rattle.isolation.proofs.KeptLaws.{Kept, Ready}
use Rattle.isolation.proofs.WroteLaws.{Judged, passed, stopped, write_judged}
use Rattle.isolation.proofs.ShownLaws.{usable_in}
use mathlib.Core.Logic.{inr}

-- the number 6 is Conflict's alone
six_is : (r : Result Used Refusal) → changed_number r ≡ 6 → r ≡ Err Conflict
six_is (Ok u) e = absurd (omega arith)
six_is (Err Absent) e = absurd (omega arith)
six_is (Err ReadOnly) e = absurd (omega arith)
six_is (Err NotOpen) e = absurd (omega arith)
six_is (Err KeyTooLong) e = absurd (omega arith)
six_is (Err ValueTooLong) e = absurd (omega arith)
six_is (Err Conflict) e = refl
six_is (Err LogFull) e = absurd (omega arith)
six_is (Err TableFull) e = absurd (omega arith)
six_is (Err TooManyOpen) e = absurd (omega arith)
six_is (Err NoSuchVersion) e = absurd (omega arith)
six_is (Err VersionsSpent) e = absurd (omega arith)
six_is (Err BadStore) e = absurd (omega arith)
six_is (Err BadRequest) e = absurd (omega arith)

small_is : (o : Option Bytes) → size_in o ≤ max_value → too_long o ≡ false
small_is None l = refl
small_is (Some v) l = le-ltb 4096 (length v) l

module _ {w : World} {T T₁ : Calls} {m : Map} (k : Kept w T m) (a : Ready w) {x : Begun} {h : Handle} (f : After (begins x ∷ T₁) T) (g : Gave x h)
    (is : status (meaning T) h.version ≡ opened) {key : Key} (l : length key ≤ max_key) (o : Option Bytes) (v : size_in o ≤ max_value) {r : Result Used Refusal} {log t : List ℕ}
    (b : Writes w.log w.used w.table h key (value_bytes o) (size_in o) r log t) where
  abbrev rest : Result Used Refusal
  rest = append_answer w.log w.used (length w.table) (plan h.version key (value_bytes o))

  number : write_number m (sight_of h) key o ≡ H.pick (conflict m (sight_of h) key) 6 0
  number = write_open order k.run (sight_of h) (began_trace x g f) (usable_in k h (inr is)) key o l (small_is o v)

  pub write_meets : Meets T h key rest r
  write_meets = go (conflict m (sight_of h) key) refl (write_judged k a (k.handles h (by_begin f g)) o b)
    where
      right : (conflict m (sight_of h) key ≡ true → Clash (meaning T) h.version key) × (Clash (meaning T) h.version key → conflict m (sight_of h) key ≡ true)
      right = conflict_right order k.run (sight_of h) (began_trace x g f) key

      go : (c : Bool) → conflict m (sight_of h) key ≡ c → Judged (leb (length key) max_key) (write_number m (sight_of h) key o) rest r → Meets T h key rest r
      go true e (passed n s q) = absurd (zero_six (sym n ∙ number ∙ ap (λ (i : Bool). H.pick i 6 0) e))
        where
          zero_six : ◌≡◌ {A = ℕ} 0 6 → ⊥
          zero_six i = omega arith
      go true e (stopped j n q) = clashes (right.0 e) (six_is r (q ∙ sym n ∙ number ∙ ap (λ (i : Bool). H.pick i 6 0) e))
      go false e (passed n s q) = free (λ c. nope (cc (sym e ∙ right.1 c))) q
      go false e (stopped j n q) = absurd (suc-zero j (sym n ∙ number ∙ ap (λ (i : Bool). H.pick i 6 0) e))
        where
          suc-zero : (j : ℕ) → suc j ≡ 0 → ⊥
          suc-zero j i = omega arith
