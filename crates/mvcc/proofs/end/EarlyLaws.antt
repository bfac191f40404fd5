-- The numbers of a request that ends a transaction: 13, and 3 of a handle that no store has open. Assumes nothing.
use Prim.Native.Nat.{ℕ}
use mathlib.Core.Path.{◌≡◌, refl, sym, ap, ◌∙◌}
use mathlib.Core.Bool.{Bool, true, false, not}
use mathlib.Core.List.{List}
use lib.Dec.{eqb}
use lib.ListN.{length}
use borrow.Author.Tests.{eqb-true}
use Rattle.std.specs.Prelude.{Result, Ok, Err, ⊤}
use Rattle.keycode.specs.Tests.{pick}
use Rattle.keycode.specs.Refusals.{number_of}
use Rattle.keycode.specs.declared.refusal.Refusal.{Refusal}
use Rattle.keycode.specs.declared.refusal.Refusal.TheVariants.{NotOpen, BadRequest}
use Rattle.keycode.proofs.Basics.{nope}
use Rattle.bitcask.specs.keydir.Place.{All, all_none, all_more}
use Rattle.bitcask.specs.declared.request.Used.{Used}
use Rattle.bitcask.specs.recovery.Agree.{fit, Agrees}
use Rattle.bitcask.specs.recovery.Promises.{changed_number}
use Rattle.bitcask.specs.engine.Marks.{mark_of}
use Rattle.bitcask.specs.engine.Rows.{rows}
use Rattle.bitcask.specs.engine.Spots.{has_row}
use Rattle.mvcc.specs.declared.handle.Handle.{Handle}
use Rattle.mvcc.specs.handle.Handles.{sound_handle}
use Rattle.mvcc.specs.request.Checks.{active_key, open_by, admit_by, check_number, open_in}
use Rattle.mvcc.proofs.request.CheckLaws.{open_read, admit_bad, admit_not_open, Admitted, admit_fine, open_never}
use Rattle.mvcc.proofs.admission.AdmitLaws.{open_rows}
use Rattle.mvcc.specs.end.Promises.{among, Early}

-- what holds of a few numbers holds of one among them
pub among-all : {P : ℕ → Type 0} {ns : List ℕ} → All P ns → (n : ℕ) → among n ns ≡ true → P n
unfolding among
among-all all_none n e = nope (cc)
among-all {P = P} (all_more {x = x} {xs = xs} p a) n e = go (eqb n x) refl e (among-all a n)
  where
    go : (b : Bool) → eqb n x ≡ b → pick b true (among n xs) ≡ true → (among n xs ≡ true → P n) → P n
    go true q f ih = rw (eqb-true n x q) p
    go false q f ih = ih f

never_by : (fits sound active : Bool) → active ≡ false → pick fits (pick sound (not active) false) false ≡ pick fits sound false
never_by fits true active e = rw e
never_by fits false active e = refl

read_by : (fits sound active : Bool) (r : Refusal) → admit_by fits sound active ≡ Err r → active ≡ true → pick fits sound false ≡ true → ⊥
unfolding admit_by
read_by true true true r q e a = nope (cc)
read_by true true false r q e a = nope (cc)
read_by true false active r q e a = nope (cc)
read_by false sound active r q e a = nope (cc)

not_asked : {fits sound : Bool} → fits ≡ true → sound ≡ true → not (pick fits sound false) ≡ false
not_asked e f = rw (e, f)

apart_by : {b : Bool} → b ≡ true → b ≡ false → ⊥
apart_by e f = nope (cc)

-- the numbers of the checks
pub admit_numbers : (ns : List ℕ) → among 3 ns ≡ true → among 13 ns ≡ true → (fits sound active : Bool) (r : Refusal) → admit_by fits sound active ≡ Err r → among (number_of r) ns ≡ true
unfolding admit_by
admit_numbers ns a b true true true r e = nope (cc)
admit_numbers ns a b true true false r e = let q : r ≡ NotOpen = cc in rw q a
admit_numbers ns a b true false active r e = let q : r ≡ BadRequest = cc in rw q b
admit_numbers ns a b false sound active r e = let q : r ≡ BadRequest = cc in rw q b

module _ (log : List ℕ) (used : Used) (t : List ℕ) (h : Handle) where
  abbrev live : Bool
  live = has_row (active_key h) (rows log t (mark_of used t))

  abbrev fits : Bool
  fits = fit (length log) used.len (length t)

  -- the checks as the code makes them
  abbrev pub admitted : Result ⊤ Refusal
  admitted = admit_by (fit (length log) used.len (length t)) (sound_handle h) (open_by h (has_row (active_key h) (rows log t (mark_of used t))))

  pub admit_map : Agrees log used.len t → admit_by (fit (length log) used.len (length t)) (sound_handle h) (open_in log used.len h) ≡ admitted
  admit_map g = rw (open_rows log used t h g)

  pub early_refused : (r : Refusal) → admitted ≡ Err r → Early log used.len t h (Err r) log t
  early_refused r q =
      record {
        bad = ap (λ (x : Result ⊤ Refusal). eqb (check_number x) 13) (sym q) ∙ admit_bad fits (sound_handle h) (open_by h live);
        never = λ o. ap (λ (x : Result ⊤ Refusal). eqb (check_number x) 3) (sym q) ∙ admit_not_open fits (sound_handle h) (open_by h live) ∙ never_by fits (sound_handle h) (open_by h live) (open_never h live o);
        reads = λ p a. absurd (read_by fits (sound_handle h) (open_by h live) r q (sym (open_read h live p)) a);
      }

  -- a call that passes the checks
  module _ (e : (Ok tt) ≡ admitted) where
    fine : Admitted fits (sound_handle h) (open_by h live)
    fine = admit_fine fits (sound_handle h) (open_by h live) e

    -- 13 is not its answer, nor is 3 where no store has the handle open
    early_by : (r : Result Used Refusal) (log' t' : List ℕ) → eqb (changed_number r) 13 ≡ false → (h.read_only ≡ true → (r ≡ Ok used) × (log' ≡ log) × (t' ≡ t)) → Early log used.len t h r log' t'
    early_by r log' t' z f =
        record {
          bad = z ∙ sym (not_asked fine.sizes fine.handle);
          never = λ o. absurd (apart_by fine.opened (open_never h live o));
          reads = λ p a. f p;
        }

    pub early-reads : Early log used.len t h (Ok used) log t
    early-reads = early_by (Ok used) log t refl (λ p. (refl, refl, refl))

    pub early-writes : h.read_only ≡ false → (r : Result Used Refusal) (log' t' : List ℕ) → eqb (changed_number r) 13 ≡ false → Early log used.len t h r log' t'
    early-writes q r log' t' z = early_by r log' t' z (λ p. absurd (apart_by p q))
