-- A log that grew with so many slots still did after a set, a delete or a compaction: so a later opening with as many never answers 8 and
-- does not cut. Assumes nothing.
use Prim.Native.Nat.{ℕ, ◌+◌, ◌/◌, ◌≤◌}
use mathlib.Core.Path.{◌≡◌, refl, sym, ap, ◌∙◌}
use mathlib.Core.Bool.{Bool, true, false}
use mathlib.Core.List.{List, [], ◌∷◌}
use native.Mathlib.Omega.{arith}
use lib.Dec.{leb}
use lib.ListN.{length}
use borrow.Author.Tests.{leb-true}
use Rattle.std.specs.Prelude.{Result, Ok, Err}
use Rattle.bitcask.specs.declared.request.Used.{Used}
use Rattle.keycode.specs.declared.refusal.Refusal.{Refusal}
use Rattle.keycode.specs.Tests.{pick}
use Rattle.keycode.specs.Limits.{max_log}
use Rattle.keycode.specs.Buffer.{put}
use Rattle.keycode.specs.declared.refusal.Refusal.TheVariants.{LogFull, TableFull, BadRequest}
use Rattle.keycode.proofs.Basics.{nope}
use Rattle.bitcask.specs.entry.Entry.{Entry, bytes_of, size_of}
use Rattle.bitcask.specs.keydir.Slots.{slot_words}
use Rattle.bitcask.specs.recovery.Map.{after}
use Rattle.bitcask.specs.recovery.Recover.{map_of}
use Rattle.bitcask.specs.recovery.Agree.{fit, Agrees}
use Rattle.bitcask.specs.recovery.Promises.{changed_number}
use Rattle.bitcask.proofs.recovery.FoldLaws.{map-rising}
use Rattle.bitcask.proofs.recovery.AgreeLaws.{agrees-sound, agrees-room, map-length}
use Rattle.bitcask.proofs.recovery.GrowLaws.{Grown, grown_append, grown_more}
use Rattle.bitcask.specs.change.Append.{size_all, after_all, append_answer}
use Rattle.bitcask.specs.compaction.Compaction.{entries_of}
use Rattle.bitcask.specs.change.Promises.{Changes, change_answer}
use Rattle.bitcask.specs.compaction.Promises.{Compacts, compact_answer}
use Rattle.bitcask.proofs.compaction.PackLaws.{packed_all}

-- what an answer of 0 says
done_says : (log : List ℕ) (used n : ℕ) (e : Entry) → fit (length log) used n ≡ true → changed_number (change_answer log used n (e ∷ [])) ≡ 0
    → (used + size_of e ≤ length log) × (length (after e (map_of log used)) ≤ n / slot_words)
unfolding append_answer size_all after_all
done_says log used n e f = rw f (go (leb (used + (size_of e + 0)) (length log)) refl (leb (length (after e (map_of log used))) (n / slot_words)) refl)
  where
    go : (a : Bool) → leb (used + (size_of e + 0)) (length log) ≡ a → (b : Bool) → leb (length (after e (map_of log used))) (n / slot_words) ≡ b
        → changed_number (pick a (pick b (Ok (record { len = used + (size_of e + 0) })) (Err TableFull)) (Err LogFull)) ≡ 0
        → (used + size_of e ≤ length log) × (length (after e (map_of log used)) ≤ n / slot_words)
    go true p true q z = (omega (arith, leb-true (used + (size_of e + 0)) (length log) p), leb-true (length (after e (map_of log used))) (n / slot_words) q)
    go true p false q z = nope (cc)
    go false p b q z = nope (cc)

pub changes_grown : {log : List ℕ} {used : ℕ} {t : List ℕ} {e : Entry} {r : Result Used Refusal} {log' t' : List ℕ} (cap : ℕ) → Agrees log used t → Grown cap log used → length t / slot_words ≤ cap
    → Changes log used t e r log' t' → changed_number r ≡ 0 → Grown cap log' (used + size_of e)
changes_grown {log} {used} {t} {e} {log' = log'} cap g h le w z =
    let s = done_says log used (length t) e g.sound (ap changed_number (sym (w.answer g)) ∙ z) in
    let so = agrees-sound log used t g in
    let q : log' ≡ put log used (bytes_of e) = w.bytes ∙ rw z in
    rw q (grown_append log used e so.small s.0 cap h (omega (arith, s.1)))

compact_says : (log : List ℕ) (used n room : ℕ) → fit (length log) used n ≡ true → changed_number (compact_answer log used n room) ≡ 0
    → (room ≤ max_log) × (size_all (entries_of (map_of log used)) ≤ room)
compact_says log used n room f = rw f (go (leb room max_log) refl (leb (size_all (entries_of (map_of log used))) room) refl)
  where
    go : (a : Bool) → leb room max_log ≡ a → (b : Bool) → leb (size_all (entries_of (map_of log used))) room ≡ b
        → changed_number (pick a (pick b (Ok (record { len = size_all (entries_of (map_of log used)) })) (Err LogFull)) (Err BadRequest)) ≡ 0
        → (room ≤ max_log) × (size_all (entries_of (map_of log used)) ≤ room)
    go true p true q z = (leb-true room max_log p, leb-true (size_all (entries_of (map_of log used))) room q)
    go true p false q z = nope (cc)
    go false p b q z = nope (cc)

pub compacts_grown : {log : List ℕ} {used : ℕ} {t g : List ℕ} {r : Result Used Refusal} {t' g' : List ℕ} → Agrees log used t → Compacts log used t g r t' g' → changed_number r ≡ 0
    → Grown (length t / slot_words) g' (size_all (entries_of (map_of log used)))
compacts_grown {log} {used} {t} {g} a w z =
    let s = compact_says log used (length t) (length g) a.sound (ap changed_number (sym (w.answer a)) ∙ z) in
    let m : length (map_of log used) ≤ length t / slot_words = omega (arith, map-length log used, agrees-room log used t a) in
    rw (w.target a z) (grown_more (length (map_of log used)) (length t / slot_words) m (packed_all g s.0 (map_of log used) (map-rising log used) s.1).grown)
