-- What a commit and a rollback that answer 0 have made of the map: their tombstones, one after the other. Assumes nothing.
use Prim.Native.Nat.{ℕ, ◌+◌, ◌≤◌}
use mathlib.Core.Path.{◌≡◌, refl, sym, ap, ◌∙◌}
use mathlib.Core.Bool.{Bool, true, false}
use mathlib.Core.List.{List, [], ◌∷◌, ◌++◌}
use lib.ListN.{length}
use Rattle.std.specs.Prelude.{Result, Ok, Err, ⊤}
use Rattle.bitcask.specs.declared.request.Used.{Used}
use Rattle.keycode.specs.Tests.{pick, if_done}
use Rattle.keycode.specs.Buffer.{put}
use Rattle.keycode.specs.declared.refusal.Refusal.{Refusal}
use Rattle.keycode.specs.declared.refusal.Refusal.TheVariants.{BadStore}
use Rattle.bitcask.specs.entry.Entry.{Entry, del}
use Rattle.bitcask.specs.keydir.Place.{count_of}
use Rattle.bitcask.specs.recovery.Map.{Pair}
use Rattle.bitcask.specs.recovery.Recover.{map_of}
use Rattle.bitcask.specs.recovery.Agree.{fit, Agrees}
use Rattle.bitcask.specs.recovery.Promises.{changed_number}
use Rattle.bitcask.specs.change.Append.{size_all, bytes_all, after_all, append_answer}
use Rattle.mvcc.specs.declared.handle.Handle.{Handle}
use Rattle.mvcc.specs.handle.Handles.{sound_handle}
use Rattle.mvcc.specs.request.Checks.{active_key, admit_by, or_else, open_in}
use Rattle.mvcc.specs.request.Lists.{Dels, dels_none, dels_more, check_of}
use Rattle.mvcc.proofs.request.CheckLaws.{not_done}
use Rattle.mvcc.proofs.request.FitLaws.{answer_fine, dels_append}
use Rattle.mvcc.specs.delete_range.Plans.{cuts_of}
use Rattle.mvcc.specs.undo.Plans.{undos_of, all_users}
use Rattle.mvcc.specs.end.Plans.{writes_of, commit_plan, rollback_plan}
use Rattle.mvcc.specs.end.Promises.{Leaves, Commits, commit_answer, RollsBack, undo_answer, rollback_answer}
use Rattle.mvcc.proofs.end.EndLaws.{dels_done}
use Rattle.mvcc.proofs.undo.UndoAgreeLaws.{undos_dels}

-- ---- an answer 0 passed each test

pub else_done : (c : Result ⊤ Refusal) (x r : Result Used Refusal) → r ≡ or_else c x → changed_number r ≡ 0 → (c ≡ (Ok tt)) × (r ≡ x)
else_done (Ok tt) x r e z = (refl, e)
else_done (Err y) x r e z = absurd (not_done y (sym (ap changed_number e) ∙ z))

pick_done : (b : Bool) (x r : Result Used Refusal) (y : Refusal) → r ≡ pick b x (Err y) → changed_number r ≡ 0 → r ≡ x
pick_done true x r y e z = e
pick_done false x r y e z = absurd (not_done y (sym (ap changed_number e) ∙ z))

done_fine : (x r : Result Used Refusal) → r ≡ x → changed_number r ≡ 0 → check_of x ≡ (Ok tt)
done_fine (Ok u) r e z = refl
done_fine (Err y) r e z = absurd (not_done y (sym (ap changed_number e) ∙ z))

-- ---- tombstones

pub record Ended (log : List ℕ) (used : ℕ) (es : List Entry) (r : Result Used Refusal) (log' : List ℕ) : Type 0 where
  pub done : r ≡ Ok (record { len = used + size_all es })
  pub room : used + size_all es ≤ length log
  pub map : map_of log' (used + size_all es) ≡ after_all es (map_of log used)

module _ {log : List ℕ} {used : ℕ} {t : List ℕ} {es : List Entry} {r : Result Used Refusal} {log' t' : List ℕ} (g : Agrees log used t) (d : Dels es) (w : Leaves log used t es r log' t')
    (e : r ≡ append_answer log used (length t) es) (z : changed_number r ≡ 0) where
  within : used + size_all es ≤ length log
  within = (answer_fine log used (length t) es (done_fine (append_answer log used (length t) es) r e z)).0

  laid : put log used (bytes_all es) ≡ log'
  laid = sym (w.bytes g ∙ ap (λ (n : ℕ). if_done n (put log used (bytes_all es)) log) z)

  map_at : {l l' : List ℕ} {u u' : ℕ} {m : List Pair} → l ≡ l' → u ≡ u' → map_of l u ≡ m → map_of l' u' ≡ m
  map_at p q x = rw (← p, ← q) x

  ended : Ended log used es r log'
  ended =
      let s = dels_append log used t es g (count_of t) refl within d in
      record {
        done = e ∙ dels_done log used t es g d within;
        room = within;
        map = map_at (s.bytes ∙ laid) s.ends s.map;
      }

-- ---- commit and rollback

cuts_dels : (m : List Pair) (k : List ℕ) → Dels (cuts_of m ++ (del k ∷ []))
unfolding cuts_of
cuts_dels [] k = dels_more dels_none
cuts_dels (q ∷ m) k = dels_more (cuts_dels m k)

pub commit_dels : (h : Handle) (m : List Pair) → Dels (commit_plan h m)
unfolding commit_plan
commit_dels h m = go h.read_only
  where
    go : (b : Bool) → Dels (pick b [] (cuts_of (writes_of h.version m) ++ (del (active_key h) ∷ [])))
    go true = dels_none
    go false = cuts_dels (writes_of h.version m) (active_key h)

pub rollback_dels : (h : Handle) (m : List Pair) → Dels (rollback_plan h m)
unfolding rollback_plan
rollback_dels h m = go h.read_only
  where
    go : (b : Bool) → Dels (pick b [] (undos_of h.version (writes_of h.version m) ++ (del (active_key h) ∷ [])))
    go true = dels_none
    go false = undos_dels h.version (writes_of h.version m) (active_key h)

-- the first checks of a call with a handle, by the log's map
abbrev pub admits : List ℕ → ℕ → List ℕ → Handle → Result ⊤ Refusal
admits log used t h = admit_by (fit (length log) used (length t)) (sound_handle h) (open_in log used h)

module _ {log : List ℕ} {used : ℕ} {t : List ℕ} {h : Handle} {r : Result Used Refusal} {log' t' : List ℕ} (g : Agrees log used t) (z : changed_number r ≡ 0) where
  pub commit_ended : Commits log used t h r log' t' → (admits log used t h ≡ (Ok tt)) × Ended log used (commit_plan h (map_of log used)) r log'
  unfolding commit_answer
  commit_ended w =
      let p = else_done (admits log used t h) (append_answer log used (length t) (commit_plan h (map_of log used))) r (w.answer g) z in
      (p.0, ended g (commit_dels h (map_of log used)) w.leaves p.1 z)

  pub rollback_ended : RollsBack log used t h r log' t' → (admits log used t h ≡ (Ok tt)) × Ended log used (rollback_plan h (map_of log used)) r log'
  unfolding rollback_answer undo_answer
  rollback_ended w =
      let a = append_answer log used (length t) (rollback_plan h (map_of log used)) in
      let b = pick h.read_only true (all_users (writes_of h.version (map_of log used))) in
      let p = else_done (admits log used t h) (pick b a (Err BadStore)) r (w.answer g) z in
      (p.0, ended g (rollback_dels h (map_of log used)) w.leaves (pick_done b a r BadStore p.1 z) z)
