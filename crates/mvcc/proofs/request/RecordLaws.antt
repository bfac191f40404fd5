-- Which keys begin with the prefixes of records: those of a tag, and of a tag and a version. Assumes nothing.
use Prim.Native.Nat.{ℕ}
use mathlib.Core.Path.{◌≡◌, refl, sym, ap, ◌∙◌}
use mathlib.Core.Bool.{Bool, false}
use mathlib.Core.List.{List, ◌++◌}
use lib.Dec.{eqb}
use lib.ListN.{take}
use lib.Seq.{take_at}
use borrow.Author.Tests.{eqb-true, eq-eqb}
use Rattle.keycode.specs.Number.{be, num}
use Rattle.keycode.specs.key.Keys.{Fields, next_version, txn_active, txn_active_snapshot, txn_write, version, unversioned, encode}
use Rattle.keycode.specs.Strings.{escape}
use Rattle.keycode.proofs.NumberLaws.{length-be, num_any}
use Rattle.mvcc.specs.request.Ranges.{write_prefix}
use Rattle.bitcask.specs.engine.Prefixes.{begins}
use Rattle.bitcask.proofs.engine.PrefixLaws.{begins-append, begins-split, same_tests}

-- the front of two runs whose first eight bytes are numbers
number-front : (v w : ℕ) (s t : List ℕ) → be 8 w ++ s ≡ be 8 v ++ t → w ≡ v
number-front v w s t e =
    sym (num_any 7 w) ∙ ap num (sym (take_at (be 8 w) s 8 (length-be 8 w)) ∙ ap (take 8) e ∙ take_at (be 8 v) t 8 (length-be 8 v)) ∙ num_any 7 v

number-begins : (v w : ℕ) (s : List ℕ) → begins (be 8 v) (be 8 w ++ s) ≡ eqb w v
number-begins v w s =
    same_tests (begins (be 8 v) (be 8 w ++ s)) (eqb w v)
    (λ e. let r = begins-split (be 8 v) (be 8 w ++ s) e in eq-eqb w v (number-front v w s r.0 r.1))
    (λ e. ap (λ (x : ℕ). begins (be 8 v) (be 8 x ++ s)) (eqb-true w v e) ∙ begins-append (be 8 v) s)

-- whether a key is that of a write of v
abbrev pub written_by : ℕ → Fields → Bool
written_by v next_version = false
written_by v (txn_active w) = false
written_by v (txn_active_snapshot w) = false
written_by v (txn_write w s) = eqb w v
written_by v (version s w) = false
written_by v (unversioned s) = false

pub write_begins : (v : ℕ) (k : Fields) → begins (write_prefix v) (encode k) ≡ written_by v k
unfolding begins
write_begins v next_version = refl
write_begins v (txn_active w) = refl
write_begins v (txn_active_snapshot w) = refl
write_begins v (txn_write w s) = number-begins v w (escape s)
write_begins v (version s w) = refl
write_begins v (unversioned s) = refl
