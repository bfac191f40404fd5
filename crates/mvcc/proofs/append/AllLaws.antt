-- Entries appended all or none, by searches that were made before: what the judgement refuses, and what is left where it does not. Assumes
-- nothing.
use Prim.Native.Nat.{ℕ, ◌+◌, ◌-◌, ◌/◌, ◌≤◌}
use mathlib.Core.Path.{◌≡◌, refl, sym, ap, ◌∙◌, subst}
use mathlib.Core.Bool.{Bool, true, false}
use mathlib.Core.Logic.{◌⊎◌, inl, inr}
use mathlib.Core.List.{List}
use native.Mathlib.Omega.{arith}
use lib.Dec.{leb}
use lib.ListN.{length}
use Rattle.std.specs.Prelude.{Result, ℕ, Ok, Err, Option, Some, None, ⊤}
use Rattle.keycode.specs.Tests.{pick}
use Rattle.keycode.specs.declared.refusal.Refusal.{Refusal}
use Rattle.keycode.specs.declared.refusal.Refusal.TheVariants.{TableFull}
use Rattle.bitcask.specs.entry.Entry.{Entry}
use Rattle.bitcask.specs.keydir.Slots.{slot_words, slots_of}
use Rattle.bitcask.specs.keydir.Place.{count_of}
use Rattle.bitcask.specs.declared.request.Used.{Used}
use Rattle.bitcask.specs.recovery.Recover.{map_of}
use Rattle.bitcask.specs.recovery.Agree.{Agrees}
use Rattle.bitcask.specs.recovery.Promises.{changed_number}
use Rattle.bitcask.specs.change.Append.{State, judge, wants, size_all, append_answer}
use Rattle.bitcask.specs.declared.engine.mark.Mark.{Mark}
use Rattle.bitcask.specs.engine.Marks.{Held}
use Rattle.mvcc.specs.request.Lists.{appended_all, state_of, judge_all, room_all, fresh_all, Sets, Apart, Fitting, check_of, Tries}
use Rattle.mvcc.specs.request.Checks.{or_else}
use Rattle.mvcc.proofs.request.ListLaws.{all-used}
use Rattle.mvcc.proofs.request.FitLaws.{judge-says, sets-judged, sets-fit, answer_fine}
use Rattle.mvcc.proofs.append.LayLaws.{Lays, tries_lays}
use Rattle.mvcc.specs.append.Appends.{Appends}

pub wants-few : (f : Result ℕ ℕ) → wants f ≤ 1
wants-few (Ok i) = omega arith
wants-few (Err i) = omega arith

-- what a judgement can answer
judge-numbers : (room : Option ℕ) (fresh free : ℕ) (u : Used) → (changed_number (or_else (judge room fresh free) (Ok u)) ≡ 0)
    ⊎ ((changed_number (or_else (judge room fresh free) (Ok u)) ≡ 7) ⊎ (changed_number (or_else (judge room fresh free) (Ok u)) ≡ 8))
judge-numbers None fresh free u = inr (inl refl)
judge-numbers (Some n) fresh free u = go (leb fresh free)
  where
    go : (b : Bool) → (changed_number (or_else (pick b (Ok tt) (Err TableFull)) (Ok u)) ≡ 0)
        ⊎ ((changed_number (or_else (pick b (Ok tt) (Err TableFull)) (Ok u)) ≡ 7) ⊎ (changed_number (or_else (pick b (Ok tt) (Err TableFull)) (Ok u)) ≡ 8))
    go true = inl refl
    go false = inr (inr refl)

tried-numbers : (log : List ℕ) (used : ℕ) (t : List ℕ) (n : ℕ) (es : List Entry) {r : Result Used Refusal} {log' t' : List ℕ} → Tries log used t n es r log' t'
    → (changed_number r ≡ 0) ⊎ ((changed_number r ≡ 7) ⊎ (changed_number r ≡ 8))
unfolding judge_all
tried-numbers log used t n es w =
    rw w.answer (judge-numbers (room_all (Some (length log - used)) es) (fresh_all log es (slots_of n t)) (length t / slot_words - n) (record { len = used + size_all es }))

-- entries that were judged together, before the first was laid
pub record Tried (log t : List ℕ) (m : Mark) (es : List Entry) (x : Result ⊤ Refusal) : Type 0 where
  pub held : Held log t m
  pub counted : m.count ≡ count_of t
  pub sets : Sets es
  pub apart : Apart es
  pub judged : x ≡ judge_all log m.used.len t m.count es

module _ {log t : List ℕ} {m : Mark} {es : List Entry} {x : Result ⊤ Refusal} (w : Tried log t m es x) where
  abbrev whole : State
  whole = appended_all (state_of log m.used.len t m.count) es

  lays_of : (r : Result Used Refusal) (log' t' : List ℕ) → Tries log m.used.len t m.count es r log' t' → Lays log m.used.len t es r log' t'
  lays_of r log' t' y = tries_lays log m.used.len t m.count es w.held.within w.counted w.sets w.apart r log' t' y

  pub all_refused : (r : Refusal) → x ≡ Err r → Appends log t m es (Err r) log t
  all_refused r q =
      let j : judge_all log m.used.len t m.count es ≡ Err r = sym w.judged ∙ q in
      let y : Tries log m.used.len t m.count es (Err r) log t = record { answer = rw j; bytes = rw j; words = rw j } in
      let l = lays_of (Err r) log t y in
      record { leaves = l.leaves; numbers = tried-numbers log m.used.len t m.count es y; full = l.full; answer = l.answer }

  module _ (q : x ≡ (Ok tt)) where
    fine : judge_all log m.used.len t m.count es ≡ (Ok tt)
    fine = sym w.judged ∙ q

    pub all_room : m.used.len + size_all es ≤ length log
    unfolding judge_all
    all_room =
        let y = judge-says es (length log - m.used.len) (fresh_all log es (slots_of m.count t)) (length t / slot_words - m.count) fine in
        omega (arith, y.0, w.held.within)

    tries : Tries log m.used.len t m.count es (Ok (record { len = whole.used })) whole.log whole.table
    tries =
        record {
          answer = rw fine (ap (λ (y : ℕ). Ok (record { len = y })) (all-used (state_of log m.used.len t m.count) es));
          bytes = rw fine;
          words = rw fine;
        }

    judged-so : Agrees log m.used.len t → judge_all log m.used.len t m.count es ≡ check_of (append_answer log m.used.len (length t) es)
    unfolding judge_all
    judged-so g = sets-judged log m.used.len t es g m.count w.counted w.sets w.apart

    fits : Agrees log m.used.len t → Fitting (length t / slot_words) es (map_of log m.used.len)
    fits g = sets-fit w.sets (map_of log m.used.len) (length t / slot_words) (answer_fine log m.used.len (length t) es (sym (judged-so g) ∙ fine)).1

    -- what was laid is right wherever the table agrees
    module _ (l : State) (el : whole.log ≡ l.log) (eu : whole.used ≡ l.used) (long : length l.table ≡ length t)
        (right : Agrees log m.used.len t → Fitting (length t / slot_words) es (map_of log m.used.len) → whole.table ≡ l.table) where
      laid : Lays log m.used.len t es (Ok (record { len = l.used })) l.log whole.table
      laid =
          subst (λ (z : ℕ). Lays log m.used.len t es (Ok (record { len = z })) l.log whole.table) eu
          (subst (λ (z : List ℕ). Lays log m.used.len t es (Ok (record { len = whole.used })) z whole.table) el
          (lays_of (Ok (record { len = whole.used })) whole.log whole.table tries))

      pub all_done : Appends log t m es (Ok (record { len = l.used })) l.log l.table
      all_done =
          let y = laid in
          record {
            leaves = record {
              bytes = y.leaves.bytes;
              words = refl;
              long = long;
              ends = y.leaves.ends;
              again = λ g z. subst (λ (y : List ℕ). Agrees l.log (m.used.len + size_all es) y) (right g (fits g)) (y.leaves.again g z);
            };
            numbers = inl refl;
            full = y.full;
            answer = y.answer;
          }
