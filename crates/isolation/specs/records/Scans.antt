-- A scan's step over records: tests of keys that ask for the user key alone, and the first key that passes one and shows a value, in the
-- order of the bytes. Document 01, 'Transactions'. Assumes nothing.
use Rattle.std.specs.declared.cmp.Ordering.TheVariants.{Less}
use Rattle.std.specs.Prelude.{ℕ, ◌^◌, ◌<◌, ◌≡◌, Bool, true, false, ◌≢◌, List, Option, None, Some}
use Rattle.keycode.specs.Tests.{pick}
use Rattle.keycode.specs.Order.{compare_bytes}
use Rattle.keycode.specs.key.Keys.{Fields, version, encode}
use Rattle.bitcask.specs.read.Ranks.{admits_low, last_bound}
use Rattle.bitcask.specs.engine.Prefixes.{begins}
use Rattle.mvcc.specs.scan.Steps.{Given}
use Rattle.isolation.specs.history.History.{Key, Bytes}

-- ---- tests

-- a Version key passes where its user key does, and no other key passes
pub record ByUser (test p : List ℕ → Bool) : Type 0 where
  pub versions : (k : List ℕ) (v : ℕ) → v < 2 ^ 64 → test (encode (version k v)) ≡ p k
  pub others : (K : Fields) → ((k : List ℕ) (v : ℕ) → K ≢ version k v) → test (encode K) ≡ false

-- a user key that begins with the prefix and is past the last given one
abbrev pub prefix_past : List ℕ → Bool → List ℕ → Key → Bool
prefix_past prefix given last k = pick (begins prefix k) (admits_low (last_bound given) (compare_bytes k last)) false

-- ---- what is given

abbrev pub given_of : Option (Key × Bytes) → Option Given
given_of None = None
given_of (Some (k, x)) = Some (record { user = k; value = x })

-- f says what each key shows; r is the first key that passes and its value, or none where none shows any
pub data First (f : Key → Option Bytes) (p : Key → Bool) (r : Option (Key × Bytes)) : Type 0 where
  none-shows : r ≡ None → ((k : Key) → p k ≡ true → f k ≡ None) → First f p r
  first-shows : (k : Key) (x : Bytes) → r ≡ Some (k, x) → p k ≡ true → f k ≡ Some x → ((j : Key) → p j ≡ true → compare_bytes j k ≡ Less → f j ≡ None) → First f p r
