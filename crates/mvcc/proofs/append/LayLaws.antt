-- Entries tried on any table: what is left, the numbers that can come of it, and under agreement the engine's rule. Assumes nothing.
use Prim.Native.Nat.{ℕ, ◌+◌, ◌-◌, ◌/◌, ◌≤◌, ◌<◌}
use mathlib.Core.Path.{◌≡◌, refl, sym, ap, ◌∙◌}
use mathlib.Core.Bool.{Bool, true, false, not}
use mathlib.Core.List.{List}
use native.Mathlib.Omega.{arith}
use lib.Dec.{leb, eqb}
use lib.ListN.{length}
use borrow.Author.Tests.{le-leb, lt-leb, leb-true, leb-false}
use Rattle.std.specs.Prelude.{Result, Ok, Err, Some, None, ⊤}
use Rattle.bitcask.specs.declared.request.Used.{Used}
use Rattle.keycode.specs.Tests.{pick}
use Rattle.keycode.specs.Buffer.{put}
use Rattle.keycode.specs.declared.refusal.Refusal.{Refusal}
use Rattle.keycode.specs.declared.refusal.Refusal.TheVariants.{LogFull, TableFull}
use Rattle.keycode.proofs.Basics.{nope}
use Rattle.keycode.proofs.BufferLaws.{refused_stays}
use Rattle.bitcask.specs.entry.Entry.{Entry}
use Rattle.bitcask.specs.keydir.Slots.{slot_words, slots_of}
use Rattle.bitcask.specs.keydir.Place.{count_of}
use Rattle.bitcask.proofs.keydir.CountLaws.{count-within}
use Rattle.bitcask.specs.recovery.Recover.{map_of}
use Rattle.bitcask.specs.recovery.Agree.{Agrees}
use Rattle.bitcask.specs.recovery.Promises.{changed_number}
use Rattle.bitcask.specs.change.Append.{judge, size_all, bytes_all, after_all, append_answer}
use Rattle.mvcc.specs.request.Lists.{appended_all, room_all, fresh_all, Sets, Apart, check_of, judge_all, state_of, Tries}
use Rattle.mvcc.proofs.request.CheckLaws.{not_done}
use Rattle.mvcc.proofs.request.ListLaws.{all-log, all_words_lem, append-all}
use Rattle.mvcc.proofs.request.FitLaws.{room-all, judge-says, sets-judged, sets-fit, answer_fine}
use Rattle.mvcc.specs.request.Checks.{or_else}
use Rattle.mvcc.specs.append.Lays.{Leaves}

-- the numbers that come after those of the request
pub data Late : ℕ → Type 0 where
  late_done : Late 0
  late_unseen : Late 6
  late-log : Late 7
  late-table : Late 8
  late-bad : Late 12

-- ---- refusals

pub leaves_refused : (log : List ℕ) (used : ℕ) (t : List ℕ) (es : List Entry) (r : Refusal) → Leaves log used t es (Err r) log t
leaves_refused log used t es r =
    record {
      bytes = refused_stays r (put log used (bytes_all es)) log;
      words = refused_stays r t t;
      long = refl;
      ends = λ u e. nope (cc);
      again = λ g z. absurd (not_done r z);
    }

-- why a judgement refuses entries of so many bytes
data NoRoom (n size : ℕ) : Refusal → Type 0 where
  no_log : n < size → NoRoom n size LogFull
  no_slot : size ≤ n → NoRoom n size TableFull

judge_refused : (es : List Entry) (n fresh free : ℕ) (z : Refusal) → judge (room_all (Some n) es) fresh free ≡ Err z → NoRoom n (size_all es) z
judge_refused es n fresh free z e = go (leb (size_all es) n) refl (leb fresh free) refl (rw (room-all n es) at e)
  where
    go : (a : Bool) → leb (size_all es) n ≡ a → (b : Bool) → leb fresh free ≡ b → judge (pick (leb (size_all es) n) (Some (n - size_all es)) None) fresh free ≡ Err z → NoRoom n (size_all es) z
    go true p true q f = nope (cc (rw (p, q) at f))
    go true p false q f = let w : z ≡ TableFull = cc (rw (p, q) at f) in rw w (no_slot (leb-true (size_all es) n p))
    go false p b q f = let w : z ≡ LogFull = cc (rw p at f) in rw w (no_log (leb-false (size_all es) n p))

-- ---- the engine's rule, by what it judges

pub answer_by : (log : List ℕ) (used words : ℕ) (es : List Entry) → append_answer log used words es ≡ or_else (check_of (append_answer log used words es)) (Ok (record { len = used + size_all es }))
unfolding append_answer
answer_by log used words es = go (leb (used + size_all es) (length log)) (leb (length (after_all es (map_of log used))) (words / slot_words))
  where
    go : (a b : Bool) → pick a (pick b (Ok (record { len = used + size_all es })) (Err TableFull)) (Err LogFull)
        ≡ or_else (check_of (pick a (pick b (Ok (record { len = used + size_all es })) (Err TableFull)) (Err LogFull))) (Ok (record { len = used + size_all es }))
    go true true = refl
    go true false = refl
    go false b = refl

-- ---- all that a try tells

abbrev len_of : Result Used Refusal → ℕ
len_of (Ok u) = u.len
len_of (Err r) = 0

pub record Lays (log : List ℕ) (used : ℕ) (t : List ℕ) (es : List Entry) (r : Result Used Refusal) (log' t' : List ℕ) : Type 0 where
  pub leaves : Leaves log used t es r log' t'
  pub late : Late (changed_number r)
  pub full : eqb (changed_number r) 7 ≡ not (leb (used + size_all es) (length log))
  pub answer : Agrees log used t → r ≡ append_answer log used (length t) es

module _ (log : List ℕ) (used : ℕ) (t : List ℕ) (n : ℕ) (es : List Entry) (within : used ≤ length log) (en : n ≡ count_of t) (sets : Sets es) (apart : Apart es) (r : Result Used Refusal) (log' t' : List ℕ)
    (w : Tries log used t n es r log' t') where
  judged-so : Agrees log used t → judge_all log used t n es ≡ check_of (append_answer log used (length t) es)
  unfolding judge_all
  judged-so g = sets-judged log used t es g n en sets apart

  tried-answer : Agrees log used t → r ≡ append_answer log used (length t) es
  tried-answer g = w.answer ∙ ap (λ (c : Result ⊤ Refusal). or_else c (Ok (record { len = used + size_all es }))) (judged-so g) ∙ sym (answer_by log used (length t) es)

  refused_lays : (z : Refusal) → NoRoom (length log - used) (size_all es) z → r ≡ Err z → log' ≡ log → t' ≡ t → Lays log used t es r log' t'
  refused_lays z (no_log h) er el et =
      record {
        leaves = rw (er, el, et) (leaves_refused log used t es LogFull);
        late = rw er late-log;
        full = rw (er, lt-leb (used + size_all es) (length log) (omega arith));
        answer = tried-answer;
      }
  refused_lays z (no_slot h) er el et =
      record {
        leaves = rw (er, el, et) (leaves_refused log used t es TableFull);
        late = rw er late-table;
        full = rw (er, le-leb (used + size_all es) (length log) (omega arith));
        answer = tried-answer;
      }

  tried_refused : (z : Refusal) → judge_all log used t n es ≡ Err z → Lays log used t es r log' t'
  tried_refused z j =
      refused_lays z (judge_refused es (length log - used) (fresh_all log es (slots_of n t)) (length t / slot_words - n) z (unfold judge_all in j)) (w.answer ∙ rw j) (w.bytes ∙ rw j) (w.words ∙ rw j)

  module _ (j : judge_all log used t n es ≡ (Ok tt)) where
    room : used + size_all es ≤ length log
    room =
        let js = judge-says es (length log - used) (fresh_all log es (slots_of n t)) (length t / slot_words - n) (unfold judge_all in j) in
        omega (arith, js.0)

    log_is : log' ≡ (appended_all (state_of log used t n) es).log
    log_is = w.bytes ∙ rw j

    table_is : t' ≡ (appended_all (state_of log used t n) es).table
    table_is = w.words ∙ rw j

    done_again : Agrees log used t → Agrees log' (used + size_all es) t'
    done_again g =
        let a = answer_fine log used (length t) es (sym (judged-so g) ∙ j) in
        let z = append-all log used t es g room (sets-fit sets (map_of log used) (length t / slot_words) a.1) n en in
        rw (log_is, table_is, ← z.ends) z.again

    done_lays : r ≡ Ok (record { len = used + size_all es }) → Lays log used t es r log' t'
    done_lays er =
        record {
          leaves = record {
            bytes = rw (er, log_is) (all-log (state_of log used t n) es room);
            words = rw er;
            long = ap length table_is ∙ all_words_lem (state_of log used t n) es (omega (arith, count-within t));
            ends = λ u e. (sym (ap len_of (sym er ∙ e)), room);
            again = λ g z. done_again g;
          };
          late = rw er late_done;
          full = rw (er, le-leb (used + size_all es) (length log) room);
          answer = tried-answer;
        }

    tried_done : Lays log used t es r log' t'
    tried_done = done_lays (w.answer ∙ rw j)

  pub tries_lays : Lays log used t es r log' t'
  tries_lays = go (judge_all log used t n es) refl
    where
      go : (c : Result ⊤ Refusal) → judge_all log used t n es ≡ c → Lays log used t es r log' t'
      go (Ok tt) j = tried_done j
      go (Err z) j = tried_refused z j
