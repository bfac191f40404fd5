-- Two results of one call that a tape makes, where the table agrees with the log, are one. Assumes nothing.
use Prim.Native.Nat.{ℕ}
use mathlib.Core.Path.{◌≡◌, sym, ap, ◌∙◌}
use mathlib.Core.Bool.{Bool, true, false}
use mathlib.Core.List.{List}
use lib.Dec.{eqb}
use Rattle.std.specs.Prelude.{Result}
use Rattle.bitcask.specs.declared.request.Used.{Used}
use Rattle.keycode.specs.declared.refusal.Refusal.{Refusal}
use Rattle.keycode.specs.declared.parts.Part.{Part}
use Rattle.bitcask.specs.declared.answers.KeyValue.{KeyValue}
use Rattle.bitcask.specs.declared.report.Counts.{Counts}
use Rattle.keycode.specs.Tests.{pick}
use Rattle.bitcask.specs.recovery.Agree.{Agrees}
use Rattle.bitcask.proofs.compaction.CompactUnique.{counting_unique}
use Rattle.mvcc.specs.declared.handle.Handle.{Handle}
use Rattle.mvcc.specs.declared.begun.Begun.{Begun}
use Rattle.mvcc.proofs.read_only.Unique.{reading_unique}
use Rattle.mvcc.proofs.as_of.Unique.{as_of_unique}
use Rattle.mvcc.proofs.start.Unique.{begins-answer, begins-log, begins-table}
use Rattle.mvcc.proofs.read.Unique.{gets_unique}
use Rattle.mvcc.proofs.write.Unique.{writes-answer, writes-log, writes-table}
use Rattle.mvcc.proofs.scan.Unique.{scans_unique}
use Rattle.mvcc.proofs.end.Unique.{commit_unique}
use Rattle.mvcc.proofs.end.RollbackUnique.{rollback_unique}
use Rattle.mvcc.specs.world.World.{World, begins, begins_reading, begins_as_of, gets, sets, deletes, scans_prefix, commits, rolls_back, counts}
use Rattle.mvcc.specs.world.Steps.{changed_to, Step}
use Rattle.tape.specs.Turns.{start_call, write_call, end_call}
use Rattle.tape.proofs.MeantLaws.{Means, means}

-- worlds that a changing call leaves
changed_same : (w : World) {w₁ w₂ : World} {r r' : Result Used Refusal} {l l' t t' : List ℕ} → r ≡ r' → l ≡ l' → t ≡ t' → w₁ ≡ changed_to w r l t → w₂ ≡ changed_to w r' l' t' → w₁ ≡ w₂
changed_same w {w₁} {w₂} {r} {r'} {l} {l'} {t} {t'} a b c e f =
    e ∙ ap (λ (x : Result Used Refusal). changed_to w x l t) a ∙ ap (λ (x : List ℕ). changed_to w r' x t) b ∙ ap (λ (x : List ℕ). changed_to w r' l' x) c ∙ sym f

module _ {w : World} (g : Agrees w.log w.used w.table) where
  pub start_unique : (c v : ℕ) {a a' : Begun} {w₁ w₂ : World} → Step w (start_call c v a) w₁ → Step w (start_call c v a') w₂ → (a ≡ a') × (w₁ ≡ w₂)
  unfolding start_call
  start_unique c v {a} {a'} {w₁} {w₂} s s' = go (eqb c 1) (eqb c 2) (means s) (means s')
    where
      go : (b b' : Bool) → Means w (pick b (begins a) (pick b' (begins_reading a) (begins_as_of v a))) w₁
          → Means w (pick b (begins a') (pick b' (begins_reading a') (begins_as_of v a'))) w₂ → (a ≡ a') × (w₁ ≡ w₂)
      go true b' m m' =
          let e = begins-answer g m.so m'.so in
          (e, changed_same w (ap (λ (x : Begun). x.answer) e) (begins-log g m.so m'.so) (begins-table g m.so m'.so) m.world m'.world)
      go false true m m' = (reading_unique g m.0 m'.0, m.1 ∙ sym m'.1)
      go false false m m' = (as_of_unique g m.0 m'.0, m.1 ∙ sym m'.1)

  pub look_unique : {h : Handle} {k : List ℕ} {a a' : Result Part Refusal} {w₁ w₂ : World} → Step w (gets h k a) w₁ → Step w (gets h k a') w₂ → a ≡ a'
  look_unique s s' = gets_unique g (means s).0 (means s').0

  pub write_unique : (c : ℕ) (h : Handle) (k v : List ℕ) {a a' : Result Used Refusal} {w₁ w₂ : World} → Step w (write_call c h k v a) w₁ → Step w (write_call c h k v a') w₂ → (a ≡ a') × (w₁ ≡ w₂)
  unfolding write_call
  write_unique c h k v {a} {a'} {w₁} {w₂} s s' = go (eqb c 5) (means s) (means s')
    where
      go : (b : Bool) → Means w (pick b (sets h k v a) (deletes h k a)) w₁ → Means w (pick b (sets h k v a') (deletes h k a')) w₂ → (a ≡ a') × (w₁ ≡ w₂)
      go true m m' =
          let e = writes-answer g m.so m'.so in
          (e, changed_same w e (writes-log g m.so m'.so) (writes-table g m.so m'.so) m.world m'.world)
      go false m m' =
          let e = writes-answer g m.so m'.so in
          (e, changed_same w e (writes-log g m.so m'.so) (writes-table g m.so m'.so) m.world m'.world)

  pub step_unique : {h : Handle} {p : List ℕ} {given : Bool} {last : List ℕ} {a a' : Result KeyValue Refusal} {w₁ w₂ : World} → Step w (scans_prefix h p given last a) w₁ → Step w (scans_prefix h p given last a') w₂
      → a ≡ a'
  step_unique s s' = scans_unique g (means s).0 (means s').0

  pub end_unique : (c : ℕ) (h : Handle) {a a' : Result Used Refusal} {w₁ w₂ : World} → Step w (end_call c h a) w₁ → Step w (end_call c h a') w₂ → (a ≡ a') × (w₁ ≡ w₂)
  unfolding end_call
  end_unique c h {a} {a'} {w₁} {w₂} s s' = go (eqb c 8) (means s) (means s')
    where
      go : (b : Bool) → Means w (pick b (commits h a) (rolls_back h a)) w₁ → Means w (pick b (commits h a') (rolls_back h a')) w₂ → (a ≡ a') × (w₁ ≡ w₂)
      go true m m' = let e = commit_unique g m.so m'.so in (e.0, changed_same w e.0 e.1 e.2 m.world m'.world)
      go false m m' = let e = rollback_unique g m.so m'.so in (e.0, changed_same w e.0 e.1 e.2 m.world m'.world)

  pub count_unique : {a a' : Result Counts Refusal} {w₁ w₂ : World} → Step w (counts a) w₁ → Step w (counts a') w₂ → a ≡ a'
  count_unique s s' = counting_unique w.log w.used w.table g (means s).0 (means s').0
