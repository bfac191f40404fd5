-- What a call that is done makes of the map: the map with its entries, and the used length behind them. Assumes nothing.
use Prim.Native.Nat.{ℕ, ◌+◌, ◌/◌}
use mathlib.Core.Path.{◌≡◌, refl, sym, ap, ◌∙◌}
use mathlib.Core.Bool.{Bool, true, false}
use mathlib.Core.List.{List}
use lib.ListN.{length}
use Rattle.std.specs.Prelude.{Result, Ok, Err, ⊤}
use Rattle.bitcask.specs.declared.request.Used.{Used}
use Rattle.keycode.specs.declared.refusal.Refusal.{Refusal}
use Rattle.keycode.specs.Tests.{pick, if_done}
use Rattle.keycode.specs.Buffer.{put}
use Rattle.keycode.specs.declared.refusal.Refusal.TheVariants.{BadRequest}
use Rattle.keycode.proofs.Basics.{nope}
use Rattle.bitcask.specs.entry.Entry.{Entry}
use Rattle.bitcask.specs.keydir.Slots.{slot_words}
use Rattle.bitcask.specs.keydir.Place.{count_of}
use Rattle.bitcask.specs.recovery.Recover.{map_of}
use Rattle.bitcask.specs.recovery.Map.{Pair}
use Rattle.bitcask.specs.recovery.Agree.{Agrees}
use Rattle.bitcask.specs.recovery.Promises.{changed_number}
use Rattle.bitcask.specs.change.Append.{size_all, bytes_all, after_all, append_answer}
use Rattle.mvcc.specs.request.Checks.{or_else}
use Rattle.mvcc.specs.request.Lists.{Sets, check_of}
use Rattle.mvcc.proofs.request.CheckLaws.{not_done}
use Rattle.mvcc.proofs.request.ListLaws.{append-all}
use Rattle.mvcc.proofs.request.FitLaws.{sets-fit, answer_fine}
use Rattle.mvcc.specs.append.Lays.{Leaves}
use Rattle.mvcc.proofs.append.LayLaws.{answer_by}

-- ---- an answer with number 0

-- passed each test before
else_done : (c : Result ⊤ Refusal) (x : Result Used Refusal) → changed_number (or_else c x) ≡ 0 → or_else c x ≡ x
else_done (Ok tt) x z = refl
else_done (Err r) x z = absurd (not_done r z)

fit_done : (b : Bool) (x : Result Used Refusal) → changed_number (pick b x (Err BadRequest)) ≡ 0 → pick b x (Err BadRequest) ≡ x
fit_done true x z = refl
fit_done false x z = nope (cc)

done_fine : (x : Result Used Refusal) → changed_number x ≡ 0 → check_of x ≡ (Ok tt)
done_fine (Ok u) z = refl
done_fine (Err r) z = absurd (not_done r z)

-- both tests in a row
pub else_both : (a b : Result ⊤ Refusal) (x r : Result Used Refusal) → r ≡ or_else a (or_else b x) → changed_number r ≡ 0 → r ≡ x
else_both a b x r e z =
    let p = else_done a (or_else b x) (sym (ap changed_number e) ∙ z) in
    e ∙ p ∙ else_done b x (sym (ap changed_number (e ∙ p)) ∙ z)

pub fit_both : (f : Bool) (a : Result ⊤ Refusal) (x r : Result Used Refusal) → r ≡ pick f (or_else a x) (Err BadRequest) → changed_number r ≡ 0 → r ≡ x
fit_both f a x r e z =
    let p = fit_done f (or_else a x) (sym (ap changed_number e) ∙ z) in
    e ∙ p ∙ else_done a x (sym (ap changed_number (e ∙ p)) ∙ z)

-- ---- the map then

map_at : {l l' : List ℕ} {u u' : ℕ} {m : List Pair} → l ≡ l' → u ≡ u' → map_of l u ≡ m → map_of l' u' ≡ m
map_at p q e = rw (← p, ← q) e

-- what a call that appended its entries has made
pub record Grows (log : List ℕ) (used : ℕ) (es : List Entry) (r : Result Used Refusal) (log' : List ℕ) : Type 0 where
  pub ends : r ≡ Ok (record { len = used + size_all es })
  pub map : map_of log' (used + size_all es) ≡ after_all es (map_of log used)

module _ {log : List ℕ} {used : ℕ} {t : List ℕ} {es : List Entry} {r : Result Used Refusal} {log' t' : List ℕ} (g : Agrees log used t) (sets : Sets es) (w : Leaves log used t es r log' t')
    (z : changed_number r ≡ 0) (e : r ≡ append_answer log used (length t) es) where
  fine : check_of (append_answer log used (length t) es) ≡ (Ok tt)
  fine = done_fine (append_answer log used (length t) es) (sym (ap changed_number e) ∙ z)

  laid : put log used (bytes_all es) ≡ log'
  laid = sym (w.bytes ∙ ap (λ (n : ℕ). if_done n (put log used (bytes_all es)) log) z)

  pub grows : Grows log used es r log'
  grows =
      let a = answer_fine log used (length t) es fine in
      let s = append-all log used t es g a.0 (sets-fit sets (map_of log used) (length t / slot_words) a.1) (count_of t) refl in
      record {
        ends = e ∙ answer_by log used (length t) es ∙ ap (λ (c : Result ⊤ Refusal). or_else c (Ok (record { len = used + size_all es }))) fine;
        map = map_at (s.bytes ∙ laid) s.ends s.map;
      }
