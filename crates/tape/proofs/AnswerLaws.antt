-- Laws of the answers' bytes: what the code lays is what the definitions say of each case of a call's answer, and each is one record
-- long. Assumes nothing.
use Prim.Native.Nat.{ℕ, ◌<◌, ◌≤◌}
use mathlib.Core.Path.{◌≡◌, refl, sym, ap, ◌∙◌}
use mathlib.Core.Bool.{Bool, true, false}
use mathlib.Core.List.{List, []}
use native.Mathlib.Omega.{arith}
use lib.ListN.{length}
use lib.Dec.{leb}
use borrow.Author.Tests.{le-leb, lt-leb, leb-true}
use Rattle.std.specs.Prelude.{Result, Ok, Err}
use Rattle.bitcask.specs.declared.request.Used.{Used}
use Rattle.keycode.specs.declared.refusal.Refusal.{Refusal}
use Rattle.keycode.specs.declared.parts.Part.{Part}
use Rattle.bitcask.specs.declared.report.Counts.{Counts}
use Rattle.keycode.specs.Tests.{pick}
use Rattle.keycode.specs.Buffer.{put}
use Rattle.keycode.specs.Refusals.{number_of}
use Rattle.bitcask.specs.recovery.Promises.{changed_number}
use Rattle.tape.specs.format.Layout.{record_len, value_room, laid, plainly}
use Rattle.tape.proofs.format.LayoutLaws.{laid-long, plainly-long}
use Rattle.tape.specs.Answers.{bytes_at, given_bytes, value_bytes, got_bytes, used_bytes, count_bytes}

-- ---- what is laid

module _ (out : List ℕ) {out' : List ℕ} where
  -- by an equation of what it is laid for
  pub laid_for : {A : Type 0} (f : A → List ℕ) {a b : A} (at : ℕ) → a ≡ b → out' ≡ put out at (f b) → out' ≡ put out at (f a)
  laid_for f at e g = g ∙ ap (λ x. put out at (f x)) (sym e)

  pub value-over : (value : List ℕ) → value_room < length value → out' ≡ put out 0 (plainly 13 4) → out' ≡ put out 0 (value_bytes value)
  unfolding value_bytes
  value-over value h g = g ∙ rw (lt-leb (length value) value_room h)

  pub value-laid : (value : List ℕ) → length value ≤ value_room → out' ≡ put out 0 (laid 0 4 0 [] value) → out' ≡ put out 0 (value_bytes value)
  unfolding value_bytes
  value-laid value h g = g ∙ rw (le-leb (length value) value_room h)

-- ---- one record each

bare_long : (c v : ℕ) → record_len ≡ length (laid 0 c v [] [])
bare_long c v = sym (laid-long 0 c v [] [] (omega arith) (omega arith))

plain_long : (n c : ℕ) → record_len ≡ length (plainly n c)
plain_long n c = sym (plainly-long n c)

pub given-long : (c : ℕ) (a : Result Used Refusal) (v : ℕ) → record_len ≡ length (given_bytes c a v)
given-long c (Ok u) v = bare_long c v
given-long c (Err r) v = plain_long (number_of r) c

value-long : (value : List ℕ) → record_len ≡ length (value_bytes value)
unfolding value_bytes
value-long value = go (leb (length value) value_room) refl
  where
    go : (b : Bool) → leb (length value) value_room ≡ b → record_len ≡ length (pick b (laid 0 4 0 [] value) (plainly 13 4))
    go true e = sym (laid-long 0 4 0 [] value (omega arith) (leb-true (length value) value_room e))
    go false e = plain_long 13 4

pub got-long : (log : List ℕ) (a : Result Part Refusal) → record_len ≡ length (got_bytes log a)
got-long log (Ok p) = value-long (bytes_at log p)
got-long log (Err r) = plain_long (number_of r) 4

pub changed_long : (c : ℕ) (a : Result Used Refusal) → record_len ≡ length (plainly (changed_number a) c)
changed_long c a = plain_long (changed_number a) c

pub used-long : (a : Result Used Refusal) → record_len ≡ length (used_bytes a)
used-long (Ok u) = bare_long 10 u.len
used-long (Err r) = plain_long (number_of r) 10

pub count_long : (a : Result Counts Refusal) → record_len ≡ length (count_bytes a)
count_long (Ok s) = bare_long 11 s.keys
count_long (Err r) = plain_long (number_of r) 11
