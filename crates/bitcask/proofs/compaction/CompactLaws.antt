-- What `compact` promises, by what it did: refused, or the live entries moved. On a table that agrees with its log the target recovers
-- to the same map, and the table agrees with it. Assumes nothing.
use Prim.Native.Nat.{ℕ, ◌-◌, ◌*◌, ◌≤◌, ◌<◌}
use mathlib.Core.Path.{◌≡◌, refl, sym, ap, ◌∙◌, subst}
use mathlib.Core.Bool.{true, false, not}
use mathlib.Core.List.{List, ◌++◌}
use native.Mathlib.Omega.{arith}
use lib.Dec.{leb, eqb}
use lib.ListN.{length, drop, replicate}
use lib.Seq.{drop_at}
use borrow.Author.Tests.{le-leb, lt-leb}
use Rattle.std.specs.Prelude.{Ok, Err, Option, ℕ, Some, None}
use Rattle.keycode.specs.Tests.{pick}
use Rattle.keycode.specs.Limits.{max_log}
use Rattle.keycode.specs.Buffer.{put}
use Rattle.keycode.specs.Refusals.{number_of}
use Rattle.keycode.specs.declared.refusal.Refusal.{Refusal}
use Rattle.keycode.specs.declared.refusal.Refusal.TheVariants.{BadRequest, LogFull}
use Rattle.keycode.proofs.Basics.{nope}
use Rattle.keycode.proofs.BufferLaws.{put_front, refused_stays}
use Rattle.bitcask.specs.entry.Entry.{Entry}
use Rattle.bitcask.specs.declared.keydir.slots.Slot.{Slot}
use Rattle.bitcask.specs.keydir.Slots.{slot_words, slots_of, words_of, table_of}
use Rattle.bitcask.specs.keydir.Place.{count_of}
use Rattle.bitcask.proofs.keydir.SlotLaws.{words-length, slots_length}
use Rattle.bitcask.specs.declared.request.Used.{Used}
use Rattle.bitcask.specs.recovery.Recover.{recovered, live, view, map_of}
use Rattle.bitcask.specs.recovery.Agree.{fit, Agrees}
use Rattle.bitcask.proofs.recovery.FoldLaws.{map-rising}
use Rattle.bitcask.proofs.recovery.AgreeLaws.{sound-fit, agrees-sound, agrees-slots}
use Rattle.bitcask.specs.change.Append.{size_all, bytes_all}
use Rattle.bitcask.specs.compaction.Compaction.{entries_of, capped, placed, Moved}
use Rattle.bitcask.specs.compaction.Promises.{compact_answer, Compacts}
use Rattle.bitcask.proofs.compaction.LiveLaws.{total_says, over-says, sizes_live, agrees-live}
use Rattle.bitcask.proofs.compaction.MoveLaws.{placed-length, entries_length, moved_words, moved_bytes, moved_past}
use Rattle.bitcask.proofs.compaction.PackLaws.{packed_all}

-- a table of slots and zeros with as many other slots in front is a table of those
put-table : (n : ℕ) (old ss : List Slot) → length ss ≡ length old → put (table_of n old) 0 (words_of ss) ≡ table_of n ss
unfolding table_of
put-table n old ss e =
    let l : length (words_of ss) ≡ length (words_of old) = words-length ss ∙ ap (λ (k : ℕ). slot_words * k) e ∙ sym (words-length old) in
    put_front (table_of n old) (words_of ss)
    ∙ ap (λ (r : List ℕ). words_of ss ++ r)
    (drop_at (words_of old) (replicate (n - slot_words * length old) 0) (length (words_of ss)) (sym l) ∙ ap (λ (k : ℕ). replicate (n - slot_words * k) 0) (sym e))

-- no refusal has number 0
never : (z : Refusal) → number_of z ≡ 0 → ⊥
never z e = nope (rw e at (refused_stays {A = ℕ} z 1 0))

module _ (log : List ℕ) (used : ℕ) (t g : List ℕ) where
  -- ---- refused

  compact_refused : (z : Refusal) → eqb (number_of z) 13 ≡ not (pick (fit (length log) used (length t)) (leb (length g) max_log) false)
      → (Agrees log used t → Err z ≡ compact_answer log used (length t) (length g)) → Compacts log used t g (Err z) t g
  compact_refused z b e = record {
    words = refused_stays z t t;
    bytes = refused_stays z g g;
    past = λ u q. nope (cc);
    long = (refl, refl);
    bad = b;
    answer = e;
    target = λ a q. absurd (never z q);
    again = λ a q. absurd (never z q);
    same = λ a q. absurd (never z q);
  }

  compact_bad : pick (fit (length log) used (length t)) (leb (length g) max_log) false ≡ false → Compacts log used t g (Err BadRequest) t g
  compact_bad b = compact_refused BadRequest (rw b) (λ a. rw b)

  pub compact_unfit : fit (length log) used (length t) ≡ false → Compacts log used t g (Err BadRequest) t g
  compact_unfit f = compact_bad (rw f)

  module _ (fine : fit (length log) used (length t) ≡ true) where
    pub compact_large : max_log < length g → Compacts log used t g (Err BadRequest) t g
    compact_large h = compact_bad (rw (fine, lt-leb (length g) max_log h))

    module _ (small : length g ≤ max_log) {n : ℕ} (en : n ≡ count_of t) {s : Option ℕ} (es : s ≡ capped (length g) (live (slots_of n t))) where
      all_fine : pick (fit (length log) used (length t)) (leb (length g) max_log) false ≡ true
      all_fine = rw (fine, le-leb (length g) max_log small)

      live-is : Agrees log used t → live (slots_of n t) ≡ size_all (entries_of (map_of log used))
      live-is a = rw en (agrees-live log used t a)

      pub compact_full : s ≡ None → Compacts log used t g (Err LogFull) t g
      compact_full e =
          let h : length g < live (slots_of n t) = over-says (length g) (live (slots_of n t)) (sym e ∙ es) in
          compact_refused LogFull (rw all_fine) (λ a. rw (all_fine, lt-leb (size_all (entries_of (map_of log used))) (length g) (omega (arith, live-is a))))

      -- ---- moved

      module _ (l : ℕ) (e : s ≡ Some l) where
        pub compact_room : size_all (entries_of (view log (slots_of n t))) ≤ length g
        compact_room = omega (arith, (total_says (length g) (live (slots_of n t)) l (sym e ∙ es)).1, sizes_live log (slots_of n t))

        module _ (slots : slot_words * n ≤ length t) {t' g' : List ℕ} {r : ℕ} (w : Moved t g (entries_of (view log (slots_of n t))) t' g' r) where
          slots-all : slot_words * length (entries_of (view log (slots_of n t))) ≤ length t
          slots-all = omega (arith, entries_length log (slots_of n t), slots_length n t)

          long-words : length t' ≡ length t
          long-words = moved_words w slots-all compact_room

          long-bytes : length g' ≡ length g
          long-bytes = moved_bytes w slots-all compact_room

          module _ (a : Agrees log used t) where
            entries_are : entries_of (view log (slots_of n t)) ≡ entries_of (map_of log used)
            unfolding map_of
            entries_are = rw (en, agrees-slots log used t a)

            size_is : r ≡ size_all (entries_of (map_of log used))
            size_is = w.last ∙ ap size_all entries_are

            room-all : size_all (entries_of (map_of log used)) ≤ length g
            room-all = rw entries_are at compact_room

            target_is : g' ≡ put g 0 (bytes_all (entries_of (map_of log used)))
            target_is = w.bytes ∙ ap (λ (x : List Entry). put g 0 (bytes_all x)) entries_are

            placed-all : length (placed 0 (entries_of (map_of log used))) ≡ length (recovered log used)
            unfolding map_of
            placed-all = placed-length 0 (entries_of (map_of log used)) ∙ entries_length log (recovered log used)

            table_is : t' ≡ table_of (length t) (placed 0 (entries_of (map_of log used)))
            table_is =
                w.words ∙ ap (λ (x : List Entry). put t 0 (words_of (placed 0 x))) entries_are
                ∙ ap (λ (x : List ℕ). put x 0 (words_of (placed 0 (entries_of (map_of log used))))) a.words
                ∙ put-table (length t) (recovered log used) (placed 0 (entries_of (map_of log used))) placed-all

            compact_again : Agrees g' (size_all (entries_of (map_of log used))) t'
            compact_again =
                let p = packed_all g small (map_of log used) (map-rising log used) room-all in
                let so = agrees-sound log used t a in
                record {
                  sound = rw (long-words, long-bytes) (sound-fit (record { small = small; within = room-all; whole = so.whole }));
                  clean = rw target_is p.clean;
                  words = table_is ∙ (rw (long-words, target_is, p.slots));
                }

            compact_same : map_of g' (size_all (entries_of (map_of log used))) ≡ map_of log used
            compact_same = rw target_is (packed_all g small (map_of log used) (map-rising log used) room-all).map

            answer-is : Ok (record { len = r }) ≡ compact_answer log used (length t) (length g)
            answer-is = rw (all_fine, le-leb (size_all (entries_of (map_of log used))) (length g) room-all) (ap (λ (x : ℕ). Ok (record { len = x })) size_is)

          pub compact_done : Compacts log used t g (Ok (record { len = r })) t' g'
          compact_done = record {
            words = refl;
            bytes = refl;
            past = λ u q. let z : ◌≡◌ {A = Used} (record { len = r }) u = cc in subst (λ (x : Used). drop x.len g' ≡ drop x.len g) z (moved_past w slots-all compact_room);
            long = (long-words, long-bytes);
            bad = rw all_fine;
            answer = λ a. answer-is a;
            target = λ a q. target_is a;
            again = λ a q. compact_again a;
            same = λ a q. compact_same a;
          }
