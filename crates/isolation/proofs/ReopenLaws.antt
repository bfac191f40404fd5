-- Behind no entry of a run's log are there more keys than its table has slots: so an opening with as many words is done and cuts nothing.
-- Assumes nothing.
use Prim.Native.Nat.{ℕ, ◌+◌, ◌/◌, ◌%◌, ◌≤◌}
use mathlib.Core.Path.{◌≡◌, refl, sym, ap, ◌∙◌}
use mathlib.Core.Bool.{Bool, true}
use mathlib.Core.List.{List, [], ◌∷◌}
use native.Mathlib.Omega.{arith}
use lib.ListN.{length}
use Rattle.std.specs.Prelude.{Result, Ok, Err}
use Rattle.bitcask.specs.declared.request.Used.{Used}
use Rattle.keycode.specs.declared.refusal.Refusal.{Refusal}
use Rattle.keycode.specs.Tests.{if_done}
use Rattle.keycode.specs.Limits.{max_log}
use Rattle.keycode.specs.Buffer.{put}
use Rattle.keycode.proofs.Basics.{nope}
use Rattle.keycode.proofs.BufferLaws.{put-none, put-put}
use Rattle.bitcask.specs.entry.Entry.{Entry, bytes_of, size_of}
use Rattle.bitcask.proofs.entry.EntryLaws.{length-bytes}
use Rattle.bitcask.specs.keydir.Slots.{slot_words}
use Rattle.bitcask.specs.keydir.Place.{count_of}
use Rattle.bitcask.specs.recovery.Map.{Pair}
use Rattle.bitcask.specs.recovery.Recover.{ends, items, map_of}
use Rattle.bitcask.specs.recovery.Agree.{Agrees}
use Rattle.bitcask.specs.recovery.Promises.{changed_number, Opens}
use Rattle.bitcask.proofs.recovery.AgreeLaws.{agrees-sound, append-long, append-map, sound-fit}
use Rattle.bitcask.proofs.recovery.OpenLaws.{opened-says, open_long}
use Rattle.bitcask.proofs.recovery.GrowLaws.{Grown, grown_start, grown_opened, grown_append, grown_opens}
use Rattle.bitcask.specs.change.Append.{size_all, bytes_all, after_all}
use Rattle.bitcask.specs.compaction.Promises.{Compacts}
use Rattle.bitcask.proofs.compaction.GrownLaws.{compacts_grown}
use Rattle.mvcc.specs.handle.Handles.{set_of}
use Rattle.mvcc.specs.payload.Payloads.{set_bytes}
use Rattle.mvcc.specs.declared.begun.Begun.{Begun}
use Rattle.mvcc.specs.request.Lists.{Sets, Dels, Fitting, fitting_more}
use Rattle.mvcc.proofs.request.FitLaws.{sets-fit, dels_fit, map-fits}
use Rattle.mvcc.specs.start.Plan.{plan_of}
use Rattle.mvcc.specs.start.Promises.{Begins}
use Rattle.mvcc.proofs.start.StartLaws.{plan-sets as begin-sets}
use Rattle.mvcc.specs.append.Lays.{Leaves}
use Rattle.mvcc.proofs.write.WriteLaws.{plan-sets}
use Rattle.mvcc.proofs.unversioned.SetLaws.{plain_sets}
use Rattle.mvcc.proofs.append.GrowLaws.{Grows}
use Rattle.mvcc.proofs.write.MapLaws.{writes_grow}
use Rattle.mvcc.proofs.unversioned.MapLaws.{plain_grow}
use Rattle.mvcc.specs.end.Promises as End
use Rattle.mvcc.specs.world.World.{World, Call, Calls}
use Rattle.mvcc.specs.world.Steps.{used_by, is_done, changed_to, compacted_to, Step, compacting, beginning, beginning_reading, beginning_as_of, resuming, getting, setting, deleting, scanning, scanning_prefix, committing, rolling_back, getting_plain, setting_plain, stating, counting, looking, stepping, checking}
use Rattle.mvcc.specs.world.Runs.{Run, first, opened, called}
use Rattle.isolation.proofs.EndedLaws.{Ended, commit_dels, rollback_dels, commit_ended, rollback_ended}
use Rattle.isolation.proofs.KeptLaws.{Ready, refused_same, len_of, compact_says}
use Rattle.isolation.proofs.HoldLaws.{run_holds}

-- ---- a list of entries, each of which fits

words-at : {n m u : ℕ} {l : List ℕ} → n ≡ m → Grown (m / slot_words) l u → Grown (n / slot_words) l u
words-at e g = rw e g

module _ (cap : ℕ) where
  grown_at : {l l' : List ℕ} {u u' : ℕ} → l ≡ l' → u ≡ u' → Grown cap l u → Grown cap l' u'
  grown_at p q g = rw (← p, ← q) g

  fitting_at : {es : List Entry} {m n : List Pair} → m ≡ n → Fitting cap es n → Fitting cap es m
  fitting_at q f = rw q f

  grown_all : (es : List Entry) (log : List ℕ) (used : ℕ) → length log ≤ max_log → used + size_all es ≤ length log → Grown cap log used → Fitting cap es (map_of log used)
      → Grown cap (put log used (bytes_all es)) (used + size_all es)
  unfolding size_all bytes_all
  grown_all [] log used small room g f = let q : used ≡ used + 0 = omega arith in grown_at (put-none log used) q g
  grown_all (e ∷ es) log used small room g (fitting_more h f) =
      let r : used + size_of e ≤ length log = omega arith in
      let l : length (put log used (bytes_of e)) ≡ length log = append-long log used e small r in
      let n : used + size_of e + size_all es ≡ used + (size_of e + size_all es) = omega arith in
      let q : used + length (bytes_of e) ≡ used + size_of e = ap (λ (n : ℕ). used + n) (length-bytes e) in
      let i : used + length (bytes_of e) ≤ length log = omega arith in
      grown_at (ap (λ (n : ℕ). put (put log used (bytes_of e)) n (bytes_all es)) (sym q) ∙ put-put log used (bytes_of e) i (bytes_all es)) n
      (grown_all es (put log used (bytes_of e)) (used + size_of e) (omega arith) (omega arith) (grown_append log used e small r cap g h) (fitting_at (append-map log used e small r g.clean) f))

-- ---- a call that appended a list

module _ {log : List ℕ} {used : ℕ} {t : List ℕ} (es : List Entry) {log' : List ℕ} (t' : List ℕ) (a : Agrees log used t) (g : Grown (length t / slot_words) log used)
    (room : used + size_all es ≤ length log) (bytes : log' ≡ put log used (bytes_all es)) (long : length t' ≡ length t) {u : ℕ} (end : u ≡ used + size_all es) where
  laid_grown : Fitting (length t / slot_words) es (map_of log used) → Grown (length t' / slot_words) log' u
  laid_grown f = words-at long (grown_at (length t / slot_words) (sym bytes) (sym end) (grown_all (length t / slot_words) es log used (agrees-sound log used t a).small room g f))

  sets_grown : Sets es → Agrees log' (used + size_all es) t' → map_of log' (used + size_all es) ≡ after_all es (map_of log used) → Grown (length t' / slot_words) log' u
  sets_grown s b m =
      let h : length (after_all es (map_of log used)) ≤ length t / slot_words = omega (arith, ap length m, map-fits log' (used + size_all es) t' es b (count_of t') refl) in
      laid_grown (sets-fit s (map_of log used) (length t / slot_words) h)

  dels_grown : Dels es → Grown (length t' / slot_words) log' u
  dels_grown d = laid_grown (dels_fit d (map_of log used) (length t / slot_words) (map-fits log used t es a (count_of t) refl))

-- ---- one call

-- the world's log never had more keys than its table has slots
abbrev pub Grew : World → Type 0
Grew w = Grown (length w.table / slot_words) w.log w.used

same_grew : {w : World} {log t : List ℕ} → Grew w → log ≡ w.log → t ≡ w.table → Grew (record { log = log; used = w.used; table = t })
same_grew g p q = rw (p, q) g

module _ {w : World} (a : Ready w) (g : Grew w) where
  grew_compacted : {x t x' : List ℕ} (r : Result Used Refusal) → Compacts w.log w.used w.table x r t x' → Grew (compacted_to w r t x')
  grew_compacted {x} {t} {x'} (Ok u) b =
      words-at b.long.0 (grown_at (length w.table / slot_words) refl (sym (compact_says w.log w.used (length w.table) (length x) u (b.answer a))) (compacts_grown a b refl))
  grew_compacted {t = t} (Err y) b = same_grew g refl (refused_same y t w.table b.words)

  grew_begun : (r : Begun) {log t : List ℕ} → Begins w.log w.used w.table r log t → Grew (changed_to w r.answer log t)
  grew_begun r {log} {t} b = go r.answer refl
    where
      bytes : (n : ℕ) → changed_number r.answer ≡ n → log ≡ if_done n (put w.log w.used (bytes_all (plan_of r.handle))) w.log
      bytes n e = b.bytes ∙ ap (λ (i : ℕ). if_done i (put w.log w.used (bytes_all (plan_of r.handle))) w.log) e

      go : (x : Result Used Refusal) → r.answer ≡ x → Grew (changed_to w x log t)
      go (Ok u) e =
          let z : changed_number r.answer ≡ 0 = ap changed_number e in
          let s : Sets (plan_of r.handle) = begin-sets (length (set_of r.handle)) r.handle.version (set_bytes (set_of r.handle)) in
          sets_grown (plan_of r.handle) t a g (b.ends u e).1 (bytes 0 z) b.long (b.ends u e).0 s (b.again a z) (b.map a z)
      go (Err y) e =
          same_grew g (refused_same y _ _ (bytes _ (ap changed_number e))) (refused_same y _ _ (b.words ∙ ap (λ (i : ℕ). if_done i t w.table) (ap changed_number e)))

  -- sets, and tombstones
  grew_left : {es : List Entry} (r : Result Used Refusal) {log t : List ℕ} → Sets es → Leaves w.log w.used w.table es r log t → (changed_number r ≡ 0 → Grows w.log w.used es r log)
      → Grew (changed_to w r log t)
  grew_left {es} (Ok u) {t = t} s b m = sets_grown es t a g (b.ends u refl).1 b.bytes b.long (b.ends u refl).0 s (b.again a refl) (m refl).map
  grew_left (Err y) s b m = same_grew g (refused_same y _ _ b.bytes) (refused_same y _ _ b.words)

  grew_ended : {es : List Entry} (r : Result Used Refusal) {log t : List ℕ} → Dels es → End.Leaves w.log w.used w.table es r log t → (changed_number r ≡ 0 → Ended w.log w.used es r log)
      → Grew (changed_to w r log t)
  grew_ended {es} (Ok u) {t = t} d b m = dels_grown es t a g (m refl).room (b.bytes a) b.long (ap len_of (m refl).done) d
  grew_ended (Err y) d b m = same_grew g (refused_same y _ _ b.kept) (refused_same y _ _ b.words)

  step_grew : {w' : World} {c : Call} → Step w c w' → Grew w'
  step_grew (compacting x {r = r} b) = grew_compacted r b
  step_grew (beginning {r = r} b) = grew_begun r b
  step_grew (beginning_reading b) = g
  step_grew (beginning_as_of b) = g
  step_grew (resuming b) = g
  step_grew (getting b) = g
  step_grew (setting {h = h} {k = k} {r = r} b) = grew_left r (plan-sets h.version k _) b.leaves (writes_grow a b)
  step_grew (deleting {h = h} {k = k} {r = r} b) = grew_left r (plan-sets h.version k _) b.leaves (writes_grow a b)
  step_grew (scanning b) = g
  step_grew (scanning_prefix b) = g
  step_grew (committing {h = h} {r = r} b) = grew_ended r (commit_dels h (map_of w.log w.used)) b.leaves (λ z. (commit_ended a z b).1)
  step_grew (rolling_back {h = h} {r = r} b) = grew_ended r (rollback_dels h (map_of w.log w.used)) b.leaves (λ z. (rollback_ended a z b).1)
  step_grew (getting_plain b) = g
  step_grew (setting_plain {k = k} {v = v} {r = r} b) = grew_left r (plain_sets k v) b.leaves (plain_grow a b)
  step_grew (stating b) = g
  step_grew (counting b) = g
  step_grew (looking b) = g
  step_grew (stepping b) = g
  step_grew (checking b) = g

-- ---- every run

open_grew : {log : List ℕ} {used : ℕ} {t : List ℕ} (r : Result Used Refusal) {t' : List ℕ} → Opens log used t r t' → is_done r ≡ true → Grew (record { log = log; used = used_by r used; table = t' })
open_grew {log} {used} {t} (Ok u) o e = words-at (open_long o refl) (grown_opened (opened-says log used (length t) u (sym o.answer)))
open_grew (Err y) o e = nope (cc)

grew : {b : Bool} {w : World} {T : Calls} → Run b w T → b ≡ true → Grew w
grew (first log t {r = r} o) e = open_grew r o e
grew (opened R t {r = r} o) e = open_grew r o e
grew (called R f s) e = step_grew ((run_holds R).ready refl) (grew R refl) s

-- the used length is the end of the last entry, after refused openings too
opened-clean : {log : List ℕ} {used : ℕ} {t : List ℕ} (r : Result Used Refusal) {t' : List ℕ} → Opens log used t r t' → ends 0 (items log used 0) ≡ used → ends 0 (items log (used_by r used) 0) ≡ used_by r used
opened-clean (Ok u) o e = (open_grew (Ok u) o refl).clean
opened-clean (Err y) o e = e

pub run-clean : {b : Bool} {w : World} {T : Calls} → Run b w T → ends 0 (items w.log w.used 0) ≡ w.used
run-clean (first log t {r = r} o) = opened-clean r o (grown_start 0 log).clean
run-clean (opened R t {r = r} o) = opened-clean r o (run-clean R)
run-clean (called R f s) = (step_grew ((run_holds R).ready refl) (grew R refl) s).clean

module _ {w : World} {T : Calls} (R : Run true w T) where
  pub run_grew : Grew w
  run_grew = grew R refl

  pub reopened : (t : List ℕ) → length w.table ≤ length t → length t % slot_words ≡ 0 → {r : Result Used Refusal} {t' : List ℕ} → Opens w.log w.used t r t' → r ≡ Ok (record { len = w.used })
  reopened t h k o =
      let s = agrees-sound w.log w.used w.table ((run_holds R).ready refl) in
      grown_opens run_grew (sound-fit (record { small = s.small; within = s.within; whole = k })) (omega arith) o
