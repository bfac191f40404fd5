-- Theorems: what a begin and a read-only begin answer in a run, every number. Assumes nothing.
use Prim.Native.Nat.{ℕ, ◌-◌, ◌^◌, ◌≤◌}
use mathlib.Core.Path.{◌≡◌, refl, ◌∙◌}
use mathlib.Core.Bool.{Bool, true, false}
use Rattle.std.specs.Prelude.{Some}
use mathlib.Core.List.{List}
use native.Mathlib.Omega.{arith}
use lib.Dec.{leb, eqb}
use lib.ListN.{length}
use borrow.Author.Tests.{le-leb, leb-true, leb-false, eqb-true, eqb-false}
use Rattle.keycode.specs.Tests.{pick}
use Rattle.keycode.specs.Limits.{max_open}
use Rattle.keycode.specs.declared.refusal.Refusal.TheVariants.{TooManyOpen, VersionsSpent}
use Rattle.keycode.specs.key.Keys.{next_version}
use Rattle.bitcask.specs.change.Append.{append_answer}
use Rattle.mvcc.specs.handle.Handles.{handle_of}
use Rattle.mvcc.specs.declared.begun.Begun.{Begun}
use Rattle.mvcc.specs.request.Given.{refused_by, begun_with}
use Rattle.mvcc.specs.start.Begins.{begun_by, begin_with}
use Rattle.mvcc.specs.start.Plan.{begin_plan}
use Rattle.mvcc.specs.start.Promises.{Begins}
use Rattle.mvcc.specs.read_only.Promises.{BeginsReading}
use Rattle.mvcc.specs.world.World.{World, Calls}
use Rattle.isolation.specs.history.Records.{Map, look}
use Rattle.isolation.specs.history.Calls.{next_of, actives}
use Rattle.isolation.specs.records.Stored.{key_order}
use Rattle.isolation.specs.Views.{Stands, Starts, spent, many, starts}
use Rattle.isolation.proofs.history.EffectLaws.{in_actives}
use Rattle.isolation.proofs.history.RunLaws.{run-born, run_unborn, run_open, run-sorted}
use Rattle.isolation.proofs.history.FewLaws.{run-few}
use Rattle.isolation.proofs.records.OrderLaws.{order}
use Rattle.isolation.proofs.records.ActiveLaws.{actives_rise}
use Rattle.isolation.proofs.KeptLaws.{Kept, Ready}
use Rattle.isolation.proofs.BeganLaws.{begin_at, reading_at}

starts_by : (log : List ℕ) (used words n : ℕ) (vs : List ℕ) (r : Begun) → length vs ≤ max_open → r ≡ begin_with log used words n (Some vs)
    → Starts n vs (append_answer log used words (begin_plan n vs)) r
starts_by log used words n vs r few e = go (eqb n (2 ^ 64 - 1)) refl (leb max_open (length vs)) refl e
  where
    go : (a : Bool) → eqb n (2 ^ 64 - 1) ≡ a → (b : Bool) → leb max_open (length vs) ≡ b
        → r ≡ pick a (refused_by VersionsSpent) (pick b (refused_by TooManyOpen) (begun_by (append_answer log used words (begin_plan n vs)) (handle_of n false vs)))
        → Starts n vs (append_answer log used words (begin_plan n vs)) r
    go true p b q f = spent (eqb-true n (2 ^ 64 - 1) p) f
    go false p true q f = many (eqb-false n (2 ^ 64 - 1) p) (omega (arith, leb-true max_open (length vs) q)) f
    go false p false q f = starts (eqb-false n (2 ^ 64 - 1) p) (omega (arith, leb-false max_open (length vs) q)) f

module _ {w : World} {T : Calls} {m : Map} (k : Kept w T m) where
  pub stands : Stands T (next_of (look m next_version)) (actives m)
  stands = record {
    born = λ v n l. run-born order k.run v l n;
    not_yet = λ v l. run_unborn order k.run v l;
    are_open = λ v. in_actives m v ∙ run_open order k.run v;
    rises = actives_rise (run-sorted order k.run);
    few = run-few key_order k.run;
  }

  pub begin_starts : Ready w → {r : Begun} {log t : List ℕ} → Begins w.log w.used w.table r log t
      → Starts (next_of (look m next_version)) (actives m) (append_answer w.log w.used (length w.table) (begin_plan (next_of (look m next_version)) (actives m))) r
  begin_starts a {r} b =
      starts_by w.log w.used (length w.table) (next_of (look m next_version)) (actives m) r (run-few key_order k.run) (begin_at k a r b)

  pub reading_starts : Ready w → {r : Begun} → BeginsReading w.log w.used w.table r → r ≡ begun_with w.used (handle_of (next_of (look m next_version)) true (actives m))
  reading_starts a {r} b = reading_at k a r b ∙ rw (le-leb (length (actives m)) max_open (run-few key_order k.run))
