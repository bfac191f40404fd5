-- The place of a key among slots: by halving, as the code goes, and what that means on slots whose keys rise. Assumes nothing.
use Rattle.std.specs.declared.cmp.Ordering.{Ordering}
use Rattle.std.specs.declared.cmp.Ordering.TheVariants.{Less, Equal, Greater}
use Rattle.std.specs.Prelude.{ℕ, zero, suc, ◌+◌, ◌-◌, ◌*◌, ◌/◌, ◌<◌, ◌≤◌, max, ◌≡◌, Bool, true, List, [], ◌∷◌, ◌++◌, ltb, eqb, length, drop, get_or, replicate, Result, Ok, Err}
use Rattle.keycode.specs.Tests.{pick}
use Rattle.keycode.specs.Order.{compare_bytes}
use Rattle.bitcask.specs.declared.keydir.slots.Slot.{Slot}
use Rattle.bitcask.specs.keydir.Slots.{slot_words, free_slot, slot_at, words_of, insert_at, replace_at, remove_at, key_of}

-- ---- halving

-- by an order: the first where it is Less, the second where Equal, the third where Greater
abbrev pub by_order : Ordering → Result ℕ ℕ → Result ℕ ℕ → Result ℕ ℕ → Result ℕ ℕ
by_order Less a b c = a
by_order Equal a b c = b
by_order Greater a b c = c

abbrev pub middle : ℕ → ℕ → ℕ
middle low high = low + (high - low) / 2

-- the place between low and high at which the order f stops being Less, in at most so many turns
unfoldable pub halve : ℕ → (ℕ → Ordering) → ℕ → ℕ → Result ℕ ℕ
halve zero f low high = Err low
halve (suc n) f low high =
    pick (ltb low high) (by_order (f (middle low high)) (halve n f (middle low high + 1) high) (Ok (middle low high)) (halve n f low (middle low high))) (Err low)

-- the same in as many turns as it takes
unfoldable pub halved : (ℕ → Ordering) → ℕ → ℕ → Result ℕ ℕ
halved f low high = halve (high - low) f low high

-- ---- the place of a key

-- the i-th slot's key against a key
unfoldable pub order_at : List ℕ → List ℕ → List Slot → ℕ → Ordering
order_at log key ss i = compare_bytes (key_of log (get_or ss i free_slot)) key

unfoldable pub place_of : List ℕ → List ℕ → List Slot → Result ℕ ℕ
place_of log key ss = halved (order_at log key ss) 0 (length ss)

-- one place further
abbrev pub further : Result ℕ ℕ → Result ℕ ℕ
further (Ok i) = Ok (suc i)
further (Err i) = Err (suc i)

-- the first slot whose key is not less
unfoldable pub place_in : List ℕ → List ℕ → List Slot → Result ℕ ℕ
place_in log key [] = Err 0
place_in log key (s ∷ ss) = by_order (compare_bytes (key_of log s) key) (further (place_in log key ss)) (Ok 0) (Err 0)

-- each of a list
pub data All {A : Type 0} (P : A → Type 0) : List A → Type 0 where
  all_none : All P []
  all_more : {x : A} {xs : List A} → P x → All P xs → All P (x ∷ xs)

-- the keys strictly rise
pub data Sorted (log : List ℕ) : List Slot → Type 0 where
  sorted_none : Sorted log []
  sorted_more : {s : Slot} {ss : List Slot} → All (λ (x : Slot). compare_bytes (key_of log s) (key_of log x) ≡ Less) ss → Sorted log ss → Sorted log (s ∷ ss)

-- a place among n slots
abbrev pub Among : ℕ → Result ℕ ℕ → Type 0
Among n (Ok i) = i < n
Among n (Err i) = i ≤ n

-- ---- the slots in use

-- a free slot is past the last in use
unfoldable pub used_at : List ℕ → ℕ → Ordering
used_at t i = pick (eqb (slot_at t i).place 0) Greater Less

abbrev pub index_of : Result ℕ ℕ → ℕ
index_of (Ok i) = i
index_of (Err i) = i

unfoldable pub count_of : List ℕ → ℕ
count_of t = index_of (halved (used_at t) 0 (length t / slot_words))

-- ---- slots put in and taken out at a place

abbrev pub put_at : Slot → Result ℕ ℕ → List Slot → List Slot
put_at s (Ok i) ss = replace_at i s ss
put_at s (Err i) ss = insert_at i s ss

abbrev pub cut_at : Result ℕ ℕ → List Slot → List Slot
cut_at (Ok i) ss = remove_at i ss
cut_at (Err i) ss = ss

-- whether a table has room for what is put there: only a new slot wants any
abbrev pub room_at : List ℕ → Result ℕ ℕ → List Slot → Bool
room_at t (Ok i) ss = true
room_at t (Err i) ss = ltb (length ss) (length t / slot_words)

-- put in where there is room
unfoldable pub entered : List ℕ → Slot → Result ℕ ℕ → List Slot → List Slot
entered t s f ss = pick (room_at t f ss) (put_at s f ss) ss

-- the table t of n slots with other slots in their place; words that this frees are cleared, words past them stay
unfoldable pub laid : ℕ → List Slot → List ℕ → List ℕ
laid n ss t = words_of ss ++ (replicate (slot_words * (n - length ss)) 0 ++ drop (slot_words * max n (length ss)) t)

-- the table t of n slots has become t', of the slots ss, and r is how many they are
pub record Becomes (t : List ℕ) (n : ℕ) (ss : List Slot) (t' : List ℕ) (r : ℕ) : Type 0 where
  pub count : r ≡ length ss
  pub words : t' ≡ laid n ss t
