-- What a scan step's answer shows, by what each user key shows. Document 01, 'Transactions'. Assumes nothing.
use Rattle.bitcask.specs.declared.answers.KeyValue.{KeyValue}
use Rattle.keycode.specs.declared.refusal.Refusal.{Refusal}
use Rattle.std.specs.declared.cmp.Ordering.TheVariants.{Less}
use Rattle.std.specs.Prelude.{ℕ, ◌≡◌, Bool, true, List, Result, Ok, Option, None, Some}
use Rattle.keycode.specs.Order.{compare_bytes}
use Rattle.keycode.specs.Strings.{escape_body}
use Rattle.keycode.specs.declared.parts.Part.{Part}
use Rattle.bitcask.specs.read.Promises.{stepped_number}
use Rattle.mvcc.specs.walk.Walks.{part_of}
use Rattle.isolation.specs.history.History.{Key, Bytes}

-- f says what each key shows: the answer is 1 where no key that passes shows a value, and else the places of the first that does, its
-- bytes escaped, and of its value
pub data ShowsFirst (f : Key → Option Bytes) (p : Key → Bool) (log : List ℕ) (r : Result KeyValue Refusal) : Type 0 where
  ends : stepped_number r ≡ 1 → ((k : Key) → p k ≡ true → f k ≡ None) → ShowsFirst f p log r
  gives : (k : Key) (x : Bytes) (a b : Part) → r ≡ Ok (record { key = a; value = b }) → part_of log a ≡ escape_body k → part_of log b ≡ x → p k ≡ true → f k ≡ Some x
      → ((j : Key) → p j ≡ true → compare_bytes j k ≡ Less → f j ≡ None) → ShowsFirst f p log r
