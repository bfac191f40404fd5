-- The slots of a table and their words. `slot_head`, `words_of` and `slot_words` alone know how a slot lies in
-- words. Every definition is total: words that are missing are 0, and parts of a log end where the log does. Assumes nothing.
use Rattle.std.specs.Prelude.{ℕ, zero, suc, ◌+◌, ◌-◌, ◌*◌, List, [], ◌∷◌, ◌++◌, length, take, drop, get_or, replicate}
use Rattle.bitcask.specs.declared.keydir.slots.Slot.{Slot}

-- the words that a slot takes
abbrev pub slot_words : ℕ
slot_words = 3

abbrev pub free_slot : Slot
free_slot = record { place = 0; klen = 0; vlen = 0 }

-- the slot at the front of some words
unfoldable pub slot_head : List ℕ → Slot
slot_head t = record { place = get_or t 0 0; klen = get_or t 1 0; vlen = get_or t 2 0 }

-- the i-th slot
unfoldable pub slot_at : List ℕ → ℕ → Slot
slot_at t i = slot_head (drop (slot_words * i) t)

-- the first n slots
unfoldable pub slots_of : ℕ → List ℕ → List Slot
slots_of zero t = []
slots_of (suc n) t = slot_head t ∷ slots_of n (drop slot_words t)

-- the words of slots
unfoldable pub words_of : List Slot → List ℕ
words_of [] = []
words_of (s ∷ ss) = s.place ∷ s.klen ∷ s.vlen ∷ words_of ss

-- a table of n words: the slots' words, then zeros
unfoldable pub table_of : ℕ → List Slot → List ℕ
table_of n ss = words_of ss ++ replicate (n - slot_words * length ss) 0

-- ---- slots put in and taken out

unfoldable pub insert_at : ℕ → Slot → List Slot → List Slot
insert_at i s ss = take i ss ++ (s ∷ drop i ss)

unfoldable pub replace_at : ℕ → Slot → List Slot → List Slot
replace_at i s ss = take i ss ++ (s ∷ drop (suc i) ss)

unfoldable pub remove_at : ℕ → List Slot → List Slot
remove_at i ss = take i ss ++ drop (suc i) ss

-- those from the i-th to the j-th gone
unfoldable pub remove_span : ℕ → ℕ → List Slot → List Slot
remove_span i j ss = take i ss ++ drop j ss

-- ---- the key and the value of a slot, as they stand in the log: an entry's key stands 8 bytes behind the entry's offset

unfoldable pub key_of : List ℕ → Slot → List ℕ
key_of log s = take s.klen (drop (s.place + 7) log)

unfoldable pub value_of : List ℕ → Slot → List ℕ
value_of log s = take s.vlen (drop (s.place + 7 + s.klen) log)
