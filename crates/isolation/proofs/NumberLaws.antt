-- Theorems: the numbers that requests and room decide, each exactly in its case. 7 of a commit and a rollback; 2, 4 and 5 of a write; 4 of a
-- get and of a scan step; 7 and 13 of a compaction; 8 and 13 of an opening. Assumes nothing.
use Prim.Native.Nat.{ℕ, ◌+◌, ◌/◌, ◌%◌, ◌≤◌, ◌<◌}
use mathlib.Core.Path.{◌≡◌, ap, ◌∙◌}
use mathlib.Core.Bool.{Bool, true, false}
use mathlib.Core.Logic.{inr}
use mathlib.Core.List.{List, [], ◌∷◌}
use native.Mathlib.Omega.{arith}
use native.Mathlib.Decide.{dec_le}
use lib.Dec.{leb, eqb}
use lib.ListN.{length}
use borrow.Author.Tests.{le-leb, lt-leb}
use Rattle.std.specs.Prelude.{Result, Ok, Err, ⊤}
use Rattle.bitcask.specs.declared.request.Used.{Used}
use Rattle.keycode.specs.declared.refusal.Refusal.{Refusal}
use Rattle.keycode.specs.declared.parts.Part.{Part}
use Rattle.bitcask.specs.declared.answers.KeyValue.{KeyValue}
use Rattle.keycode.specs.Tests.{pick}
use Rattle.keycode.specs.Limits.{max_key, max_value, max_log}
use Rattle.keycode.specs.declared.refusal.Refusal.TheVariants.{ReadOnly, KeyTooLong, ValueTooLong, LogFull, BadStore, BadRequest}
use Rattle.keycode.specs.key.Keys.{unversioned, encode}
use Rattle.bitcask.specs.entry.Entry.{Entry}
use Rattle.bitcask.specs.keydir.Slots.{slot_words}
use Rattle.bitcask.specs.recovery.Recover.{run, items, map_of}
use Rattle.bitcask.specs.recovery.Agree.{fit, Agrees}
use Rattle.bitcask.specs.recovery.Promises.{opened_by, open_answer, Opens}
use Rattle.bitcask.proofs.recovery.AgreeLaws.{Sound as Sized}
use Rattle.bitcask.specs.change.Append.{size_all, append_answer}
use Rattle.bitcask.specs.compaction.Promises.{Compacts}
use Rattle.mvcc.specs.declared.handle.Handle.{Handle}
use Rattle.mvcc.specs.handle.Handles.{sound_handle}
use Rattle.mvcc.specs.declared.begun.Begun.{Begun}
use Rattle.mvcc.specs.request.Checks.{or_else, open_in}
use Rattle.mvcc.specs.request.Lists.{Dels}
use Rattle.mvcc.specs.read.Promises.{Gets, checked, get_answer}
use Rattle.bitcask.specs.engine.Rows.{rows_in}
use Rattle.bitcask.specs.engine.Spots.{look_row}
use Rattle.mvcc.specs.unversioned.Promises.{row_located, unversioned_answer, GetsUnversioned, plain_plan, plain_answer, SetsPlain}
use Rattle.mvcc.specs.append.Lays.{sizes_by}
use Rattle.mvcc.specs.write.Writes.{allow_by}
use Rattle.mvcc.specs.write.Promises.{Writes, write_answer}
use Rattle.mvcc.specs.scan.Promises.{Scanning, checked_step, keys_by, scan_answer}
use Rattle.mvcc.specs.undo.Plans.{all_users}
use Rattle.mvcc.specs.end.Plans.{writes_of, commit_plan, rollback_plan}
use Rattle.mvcc.specs.end.Promises.{Commits, commit_answer, RollsBack, undo_answer, rollback_answer}
use Rattle.mvcc.proofs.end.EndLaws.{dels_done}
use Rattle.mvcc.specs.world.World.{World, begins, Calls}
use Rattle.mvcc.specs.world.Runs.{After, Gave, Given, by_begin, Run}
use Rattle.isolation.specs.history.History.{opened, status}
use Rattle.isolation.specs.history.Records.{Map}
use Rattle.isolation.specs.records.Stored.{sight_of}
use Rattle.isolation.specs.Meaning.{meaning}
use Rattle.isolation.specs.Views.{Usable, ended_in, compacted_in, opened_in}
use Rattle.isolation.proofs.history.RunLaws.{begin_own}
use Rattle.isolation.proofs.records.OrderLaws.{order}
use Rattle.isolation.proofs.records.EndLaws.{users_pairs}
use Rattle.isolation.proofs.GivenLaws.{began_trace}
use Rattle.isolation.proofs.KeptLaws.{Sound, Kept, Ready}
use Rattle.isolation.proofs.OpenLaws.{open_usable, checks_pass}
use Rattle.isolation.proofs.EndedLaws.{admits, commit_dels, rollback_dels}
use Rattle.isolation.proofs.ShownLaws.{usable_in}
use Rattle.isolation.proofs.ReopenLaws.{run-clean}

-- ---- the tests, one after the other

refused_reads : (f g ro o short small : Bool) → f ≡ true → g ≡ true → ro ≡ true → allow_by f g ro o short small ≡ Err ReadOnly
unfolding allow_by
refused_reads f g ro o short small p q i = rw (p, q, i)

refused_key : (f g ro o short small : Bool) → f ≡ true → g ≡ true → ro ≡ false → o ≡ true → short ≡ false → allow_by f g ro o short small ≡ Err KeyTooLong
unfolding allow_by sizes_by
refused_key f g ro o short small p q i j s = rw (p, q, i, j, s)

refused_value : (f g ro o short small : Bool) → f ≡ true → g ≡ true → ro ≡ false → o ≡ true → short ≡ true → small ≡ false → allow_by f g ro o short small ≡ Err ValueTooLong
unfolding allow_by sizes_by
refused_value f g ro o short small p q i j s v = rw (p, q, i, j, s, v)

long_get : (c : Result ⊤ Refusal) (b : Bool) (x r : Result Part Refusal) → r ≡ checked c (pick b x (Err KeyTooLong)) → c ≡ (Ok tt) → b ≡ false → r ≡ Err KeyTooLong
long_get c b x r e p q = e ∙ rw (p, q)

long_scan : (c : Result ⊤ Refusal) (b : Bool) (x r : Result KeyValue Refusal) → r ≡ checked_step (keys_by c b) x → c ≡ (Ok tt) → b ≡ false → r ≡ Err KeyTooLong
unfolding keys_by
long_scan c b x r e p q = e ∙ rw (p, q)

undo_passed : (c : Result ⊤ Refusal) (ro users : Bool) (x r : Result Used Refusal) → r ≡ or_else c (pick (pick ro true users) x (Err BadStore)) → c ≡ (Ok tt) → users ≡ true → r ≡ x
undo_passed c true users x r e p q = e ∙ rw p
undo_passed c false users x r e p q = e ∙ rw (p, q)

-- a list of tombstones meets no other refusal than that of a full log
dels_answer : (log : List ℕ) (used : ℕ) (t : List ℕ) (es : List Entry) → Agrees log used t → Dels es
    → append_answer log used (length t) es ≡ pick (leb (used + size_all es) (length log)) (Ok (record { len = used + size_all es })) (Err LogFull)
unfolding append_answer
dels_answer log used t es g d = go (dec_le (used + size_all es) (length log))
  where
    go : Dec (used + size_all es ≤ length log)
        → append_answer log used (length t) es ≡ pick (leb (used + size_all es) (length log)) (Ok (record { len = used + size_all es })) (Err LogFull)
    go (yes h) = dels_done log used t es g d h ∙ rw (le-leb (used + size_all es) (length log) h)
    go (no h) = let l : length log < used + size_all es = omega arith in rw (lt-leb (used + size_all es) (length log) l)

pub no_room : (w : World) (es : List Entry) → length w.log < w.used + size_all es → ended_in w es ≡ Err LogFull
no_room w es l = rw (lt-leb (w.used + size_all es) (length w.log) l)

-- the sizes of a request
abbrev sized : World → Bool
sized w = fit (length w.log) w.used (length w.table)

module _ {w : World} {T : Calls} {m : Map} (k : Kept w T m) (a : Ready w) where
  pub compact_exact : {g t g' : List ℕ} {r : Result Used Refusal} → Compacts w.log w.used w.table g r t g' → r ≡ compacted_in w (length g)
  compact_exact b = b.answer a ∙ rw a.sound

  pub plain_gets : {key : List ℕ} {r : Result Part Refusal} → GetsUnversioned w.log w.used w.table key r
      → r ≡ pick (leb (length key) max_key) (row_located (look_row (encode (unversioned key)) (rows_in w.log w.used))) (Err KeyTooLong)
  unfolding unversioned_answer
  plain_gets b = b.answer a ∙ rw a.sound

  pub plain_sets : {key value : List ℕ} {r : Result Used Refusal} {log t : List ℕ} → SetsPlain w.log w.used w.table key value r log t
      → r ≡ or_else (sizes_by (leb (length key) max_key) (leb (length value) max_value)) (append_answer w.log w.used (length w.table) (plain_plan key value))
  unfolding plain_answer
  plain_sets b = b.answer a ∙ rw a.sound

  -- ---- with a handle that one of the calls gave

  module _ {h : Handle} (g : Given h T) where
    pub write_reads : h.read_only ≡ true → {key payload : List ℕ} {size : ℕ} {r : Result Used Refusal} {log t : List ℕ} → Writes w.log w.used w.table h key payload size r log t
        → r ≡ Err ReadOnly
    unfolding write_answer
    write_reads e {key} {payload} {size} b =
        b.answer a
        ∙ rw (refused_reads (sized w) (sound_handle h) h.read_only (open_in w.log w.used h) (leb (length key) max_key) (leb size max_value)
        a.sound (k.handles h g).sound e)

    module _ (u : Usable T h) where
      admitted : admits w.log w.used w.table h ≡ (Ok tt)
      admitted = checks_pass k (k.handles h g) a (usable_in k h u)

      pub get_long : {key : List ℕ} → max_key < length key → {r : Result Part Refusal} → Gets w.log w.used w.table h key r → r ≡ Err KeyTooLong
      unfolding get_answer
      get_long {key} l {r} b = long_get (admits w.log w.used w.table h) (leb (length key) max_key) _ r (b.answer a) admitted (lt-leb (length key) max_key l)

      pub scan_long : {short : Bool} {test : List ℕ → Bool} → short ≡ false → {r : Result KeyValue Refusal} → Scanning w.log w.used w.table h short test r → r ≡ Err KeyTooLong
      unfolding scan_answer
      scan_long {short} e {r} b = long_scan (admits w.log w.used w.table h) short _ r (b.answer a) admitted e

      pub commit_ends : {r : Result Used Refusal} {log t : List ℕ} → Commits w.log w.used w.table h r log t → r ≡ ended_in w (commit_plan h (map_of w.log w.used))
      unfolding commit_answer
      commit_ends b =
          b.answer a ∙ ap (λ (c : Result ⊤ Refusal). or_else c (append_answer w.log w.used (length w.table) (commit_plan h (map_of w.log w.used)))) admitted
          ∙ dels_answer w.log w.used w.table (commit_plan h (map_of w.log w.used)) a (commit_dels h (map_of w.log w.used))

      pub rollback_ends : {r : Result Used Refusal} {log t : List ℕ} → RollsBack w.log w.used w.table h r log t → r ≡ ended_in w (rollback_plan h (map_of w.log w.used))
      unfolding rollback_answer undo_answer
      rollback_ends {r} b =
          undo_passed (admits w.log w.used w.table h) h.read_only (all_users (writes_of h.version (map_of w.log w.used)))
          (append_answer w.log w.used (length w.table) (rollback_plan h (map_of w.log w.used))) r (b.answer a) admitted (rw k.map (users_pairs h k.fine))
          ∙ dels_answer w.log w.used w.table (rollback_plan h (map_of w.log w.used)) a (rollback_dels h (map_of w.log w.used))

  -- ---- a write while its transaction is open

  module _ {T₁ : Calls} {x : Begun} {h : Handle} (f : After (begins x ∷ T₁) T) (g : Gave x h) (is : status (meaning T) h.version ≡ opened) where
    sound : Sound h
    sound = k.handles h (by_begin f g)

    own : h.read_only ≡ false
    own = begin_own order k.run (sight_of h) (began_trace x g f)

    live : open_in w.log w.used h ≡ true
    live = open_usable k sound ∙ usable_in k h (inr is)

    module _ {key payload : List ℕ} {size : ℕ} {r : Result Used Refusal} {log t : List ℕ} (b : Writes w.log w.used w.table h key payload size r log t) where
      pub write_long : max_key < length key → r ≡ Err KeyTooLong
      unfolding write_answer
      write_long l =
          b.answer a
          ∙ rw (refused_key (sized w) (sound_handle h) h.read_only (open_in w.log w.used h) (leb (length key) max_key) (leb size max_value)
          a.sound sound.sound own live (lt-leb (length key) max_key l))

      pub write_large : length key ≤ max_key → max_value < size → r ≡ Err ValueTooLong
      unfolding write_answer
      write_large l v =
          b.answer a
          ∙ rw (refused_value (sized w) (sound_handle h) h.read_only (open_in w.log w.used h) (leb (length key) max_key) (leb size max_value)
          a.sound sound.sound own live (le-leb (length key) max_key l) (lt-leb size max_value v))

-- ---- an opening with any table: nothing is ever cut

-- of a log and a used length that are right the words alone decide
fit_words : (size used words : ℕ) (x : Result Used Refusal) → size ≤ max_log → used ≤ size
    → pick (fit size used words) x (Err BadRequest) ≡ pick (eqb (words % slot_words) 0) x (Err BadRequest)
unfolding fit
fit_words size used words x s u = rw (le-leb size max_log s, le-leb used size u)

module _ {b : Bool} {w : World} {T : Calls} (R : Run b w T) (t : List ℕ) {r : Result Used Refusal} {t' : List ℕ} (o : Opens w.log w.used t r t') where
  abbrev walked : Result Used Refusal
  walked = opened_by (run w.log (length t / slot_words) (items w.log w.used 0) []) w.used

  pub open_any : r ≡ pick (fit (length w.log) w.used (length t)) walked (Err BadRequest)
  unfolding open_answer
  open_any =
      o.answer
      ∙ ap (λ (n : ℕ). pick (fit (length w.log) w.used (length t)) (opened_by (run w.log (length t / slot_words) (items w.log w.used 0) []) n) (Err BadRequest))
      (run-clean R)

  pub open_exact : Sized (length w.log) w.used (length w.table) → r ≡ opened_in w (length t)
  open_exact s = open_any ∙ fit_words (length w.log) w.used (length t) walked s.small s.within
