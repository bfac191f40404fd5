-- What the ends of a transaction share, for any list of tombstones: what a refusal, no entry and a whole list leave, and the engine's rule
-- by the room that the code finds. Assumes nothing.
use Prim.Native.Nat.{ℕ, zero, suc, ◌+◌, ◌-◌, ◌/◌, ◌≤◌, ◌<◌}
use mathlib.Core.Path.{◌≡◌, refl, sym, ap, ◌∙◌, subst}
use mathlib.Core.Bool.{Bool, true, false}
use mathlib.Core.List.{List, [], ◌∷◌, ◌++◌}
use native.Mathlib.Nat.{add-zero}
use native.Mathlib.Omega.{arith}
use lib.Dec.{leb}
use lib.ListN.{length}
use borrow.Author.Tests.{le-leb, lt-leb, leb-true, leb-false}
use Rattle.std.specs.Prelude.{Result, Ok, Err, Option, ℕ, Some, None}
use Rattle.keycode.specs.Tests.{pick, if_done}
use Rattle.keycode.specs.Buffer.{put}
use Rattle.keycode.specs.declared.refusal.Refusal.{Refusal}
use Rattle.keycode.specs.declared.refusal.Refusal.TheVariants.{LogFull}
use Rattle.keycode.proofs.Basics.{nope}
use Rattle.keycode.proofs.BufferLaws.{refused_stays, put-none}
use Rattle.bitcask.specs.entry.Entry.{Entry, entry_key, entry_value}
use Rattle.bitcask.specs.keydir.Slots.{slot_words}
use Rattle.bitcask.specs.keydir.Place.{count_of}
use Rattle.bitcask.specs.declared.request.Used.{Used}
use Rattle.bitcask.specs.recovery.Recover.{map_of}
use Rattle.bitcask.specs.recovery.Agree.{Agrees}
use Rattle.bitcask.specs.recovery.Promises.{changed_number}
use Rattle.bitcask.proofs.recovery.AgreeLaws.{agrees-sound, agrees_unique}
use Rattle.bitcask.specs.change.Append.{State, room_after, size_all, bytes_all, after_all, append_answer}
use Rattle.bitcask.specs.engine.Rows.{Row}
use Rattle.bitcask.specs.engine.Endings.{tombstones, room_tombs}
use Rattle.bitcask.specs.engine.Extends.{Extends}
use Rattle.bitcask.proofs.engine.ExtendLaws.{extends_none}
use Rattle.bitcask.proofs.engine.LeftLaws.{Keeps}
use Rattle.mvcc.specs.request.Lists.{room_all, Dels, dels_none}
use Rattle.mvcc.proofs.request.CheckLaws.{not_done}
use Rattle.mvcc.proofs.request.ListLaws.{Appends}
use Rattle.mvcc.proofs.request.FitLaws.{room-all, dels_shrink, map-fits}
use Rattle.mvcc.specs.end.Promises.{Leaves}

-- ---- what is left

done_len : {a : ℕ} {u : Used} → ◌≡◌ {A = Result Used Refusal} (Ok (record { len = a })) (Ok u) → a ≡ u.len
done_len {a} {u} e = let z : ◌≡◌ {A = Used} (record { len = a }) u = cc in ap (λ (y : Used). y.len) z

module _ (log : List ℕ) (used : ℕ) (t : List ℕ) where
  pub leaves_refused : (es : List Entry) (r : Refusal) → Leaves log used t es (Err r) log t
  leaves_refused es r =
      record {
        kept = refused_stays r log log;
        words = refused_stays r t t;
        long = refl;
        ends = λ u e. nope (cc);
        bytes = λ g. refused_stays r (put log used (bytes_all es)) log;
        again = λ g z. absurd (not_done r z);
      }

  none-bytes : log ≡ put log used (bytes_all [])
  unfolding bytes_all
  none-bytes = put-none log used

  none_size : used + size_all [] ≡ used
  unfolding size_all
  none_size = add-zero used

  pub leaves_none : used ≤ length log → Leaves log used t [] (Ok (record { len = used })) log t
  leaves_none h =
      record {
        kept = refl;
        words = refl;
        long = refl;
        ends = λ u e. subst (Extends log used log) (done_len e) (extends_none log used h);
        bytes = λ g. none-bytes;
        again = λ g z. rw none_size g;
      }

  -- a list appended by steps that keep what lies below
  pub leaves_done : (n : ℕ) (es : List Entry) (s : State) → Keeps (record { log = log; used = used; table = t; count = n }) s → (Agrees log used t → Appends log used t es s)
      → Leaves log used t es (Ok (record { len = s.used })) s.log s.table
  leaves_done n es s k f =
      record {
        kept = refl;
        words = refl;
        long = k.table;
        ends = λ u e. subst (Extends log used s.log) (done_len e) k.extends;
        bytes = λ g. (f g).bytes;
        again = λ g z. subst (λ (m : ℕ). Agrees s.log m s.table) (f g).ends (f g).again;
      }

-- the entries matter where the table agrees alone
pub leaves-plan : {log : List ℕ} {used : ℕ} {t : List ℕ} {es fs : List Entry} {r : Result Used Refusal} {log' t' : List ℕ} → (Agrees log used t → fs ≡ es) → Leaves log used t es r log' t'
    → Leaves log used t fs r log' t'
leaves-plan {log} {used} {t} {r = r} {log' = log'} {t' = t'} f w =
    record {
      kept = w.kept;
      words = w.words;
      long = w.long;
      ends = w.ends;
      bytes = λ g. w.bytes g ∙ ap (λ (ds : List Entry). if_done (changed_number r) (put log used (bytes_all ds)) log) (sym (f g));
      again = λ g z. subst (λ (ds : List Entry). Agrees log' (used + size_all ds) t') (sym (f g)) (w.again g z);
    }

-- under agreement two of them with one answer are one
module _ {log : List ℕ} {used : ℕ} {t : List ℕ} {es : List Entry} {r r' : Result Used Refusal} {l l' x x' : List ℕ} (same : r ≡ r') (w : Leaves log used t es r l x) (w' : Leaves log used t es r' l' x') (g : Agrees log used t) where
  pub leaves-log : l ≡ l'
  leaves-log = w.bytes g ∙ ap (λ (y : Result Used Refusal). if_done (changed_number y) (put log used (bytes_all es)) log) same ∙ sym (w'.bytes g)

  pub leaves_table : x ≡ x'
  leaves_table = go (changed_number r) refl
    where
      back : changed_number r' ≡ changed_number r
      back = ap changed_number (sym same)

      stays : {n m : ℕ} {a b : List ℕ} → a ≡ if_done n a b → n ≡ suc m → a ≡ b
      stays p q = p ∙ rw q

      go : (n : ℕ) → changed_number r ≡ n → x ≡ x'
      go zero q = agrees_unique (subst (λ (y : List ℕ). Agrees y (used + size_all es) x) leaves-log (w.again g q)) (w'.again g (back ∙ q)) (w.long ∙ sym w'.long)
      go (suc n) q = stays w.words q ∙ sym (stays w'.words (back ∙ q))

-- ---- the engine's rule, by the room that tombstones leave

pub room-append : (room : Option ℕ) (es fs : List Entry) → room_all room (es ++ fs) ≡ room_all (room_all room es) fs
unfolding room_all
room-append room [] fs = refl
room-append room (e ∷ es) fs = room-append (room_after room (length (entry_key e)) (length (entry_value e))) es fs

-- the room that the code finds for rows
pub room-rows : (room : Option ℕ) (rs : List Row) → room_tombs room rs ≡ room_all room (tombstones rs)
unfolding room_all room_tombs tombstones
room-rows room [] = refl
room-rows room (r ∷ rs) = room-rows (room_after room (length r.key) 0) rs

room_by : (es : List Entry) (k : ℕ) (b : Bool) → leb (size_all es) k ≡ b → room_all (Some k) es ≡ pick b (Some (k - size_all es)) None
room_by es k b e = room-all k es ∙ rw e

module _ (es : List Entry) (k : ℕ) where
  left_room : (m : ℕ) → room_all (Some k) es ≡ Some m → size_all es ≤ k
  left_room m e = go (leb (size_all es) k) refl
    where
      go : (b : Bool) → leb (size_all es) k ≡ b → size_all es ≤ k
      go true p = leb-true (size_all es) k p
      go false p = nope (cc (e, room_by es k false p))

  full-room : room_all (Some k) es ≡ None → k < size_all es
  full-room e = go (leb (size_all es) k) refl
    where
      go : (b : Bool) → leb (size_all es) k ≡ b → k < size_all es
      go true p = nope (cc (e, room_by es k true p))
      go false p = leb-false (size_all es) k p

module _ (log : List ℕ) (used : ℕ) (t : List ℕ) (es : List Entry) (g : Agrees log used t) where
  pub dels_room : (m : ℕ) → room_all (Some (length log - used)) es ≡ Some m → used + size_all es ≤ length log
  dels_room m e = omega (arith, left_room es (length log - used) m e, (agrees-sound log used t g).within)

  -- tombstones leave no more keys than there were, so that 8 is never their answer
  pub dels_done : Dels es → used + size_all es ≤ length log → append_answer log used (length t) es ≡ Ok (record { len = used + size_all es })
  unfolding append_answer
  dels_done d room =
      rw (le-leb (used + size_all es) (length log) room, le-leb (length (after_all es (map_of log used))) (length t / slot_words) (omega (arith, dels_shrink d (map_of log used), map-fits log used t es g (count_of t) refl)))

  pub dels_full : room_all (Some (length log - used)) es ≡ None → append_answer log used (length t) es ≡ Err LogFull
  unfolding append_answer
  dels_full e = rw (lt-leb (used + size_all es) (length log) (omega (arith, full-room es (length log - used) e)))

-- no entry is appended at once
pub none_done : (log : List ℕ) (used : ℕ) (t : List ℕ) → Agrees log used t → append_answer log used (length t) [] ≡ Ok (record { len = used })
none_done log used t g =
    dels_done log used t [] g dels_none (omega (arith, (agrees-sound log used t g).within, none_size log used t)) ∙ ap (λ (n : ℕ). Ok (record { len = n })) (none_size log used t)
