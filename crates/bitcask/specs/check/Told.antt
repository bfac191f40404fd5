-- Agreement told by one walk of the log and no second table. An entry whose key has a slot lies before that slot's entry or is it; one
-- whose key has none is a tombstone or has a later entry of its key; as many entries are a slot's as there are slots. The tests are the
-- code's, for any words; proofs/ToldLaws shows what they mean on slots whose keys rise. Assumes nothing.
use Rattle.std.specs.declared.cmp.Ordering.{Ordering}
use Rattle.std.specs.Prelude.{ℕ, suc, Bool, true, false, List, [], ◌∷◌, ltb, eqb, get_or, Result, Ok, Err, Some, None, Option}
use Rattle.keycode.specs.Tests.{pick}
use Rattle.keycode.specs.Order.{compare_bytes, by_order}
use Rattle.bitcask.specs.declared.keydir.slots.Slot.{Slot}
use Rattle.bitcask.specs.keydir.Slots.{free_slot, key_of}
use Rattle.bitcask.specs.keydir.Place.{place_of}
use Rattle.bitcask.specs.recovery.Recover.{Item, next}
use Rattle.bitcask.specs.declared.check.Seen.{Seen}
use Rattle.bitcask.specs.declared.check.Judged.{Judged}
use Rattle.bitcask.specs.declared.check.Judged.TheVariants.{Wrong, Early, Exact}

-- ---- words and slots

-- every word is 0
unfoldable pub zeroed : List ℕ → Bool
zeroed [] = true
zeroed (x ∷ xs) = pick (eqb x 0) (zeroed xs) false

abbrev pub is_less : Ordering → Bool
is_less o = by_order o true false false

abbrev pub is_equal : Ordering → Bool
is_equal o = by_order o false true false

-- a slot's key is below that of the slot behind it
abbrev pub leads : List ℕ → Slot → List Slot → Bool
leads log s [] = true
leads log s (x ∷ ss) = is_less (compare_bytes (key_of log s) (key_of log x))

unfoldable pub risen : List ℕ → List Slot → Bool
risen log [] = true
risen log (s ∷ ss) = pick (leads log s ss) (risen log ss) false

-- ---- entries

abbrev pub ahead_of : Option Item → Option Seen
ahead_of None = None
ahead_of (Some i) = Some (record { slot = i.slot; gone = i.gone })

abbrev pub item_seen : Seen → Item
item_seen s = record { slot = s.slot; gone = s.gone }

-- one of the entries has the key
unfoldable pub later_in : List ℕ → List ℕ → List Item → Bool
later_in log k [] = false
later_in log k (i ∷ is) = pick (is_equal (compare_bytes (key_of log i.slot) k)) true (later_in log k is)

abbrev pub same_slot : Slot → Slot → Bool
same_slot a b = pick (eqb a.place b.place) (pick (eqb a.klen b.klen) (eqb a.vlen b.vlen) false) false

-- an entry against the slot that its key has
unfoldable pub against : Slot → Slot → Bool → Judged
against s x gone = pick (ltb x.place s.place) Early (pick gone Wrong (pick (same_slot s x) Exact Wrong))

-- the slot at a place that was found
abbrev pub slot_found : Result ℕ ℕ → List Slot → Option Slot
slot_found (Ok j) ss = Some (get_or ss j free_slot)
slot_found (Err j) ss = None

-- an entry by the slot of its key and whether a later entry has its key
abbrev pub judged_by : Option Slot → Item → Bool → Judged
judged_by (Some s) i later = against s i.slot i.gone
judged_by None i later = pick i.gone Early (pick later Early Wrong)

-- an entry among those behind it
unfoldable pub judged_in : List ℕ → List Slot → Item → List Item → Judged
judged_in log ss i is = judged_by (slot_found (place_of log (key_of log i.slot) ss) ss) i (later_in log (key_of log i.slot) is)

abbrev pub one_more : Option ℕ → Option ℕ
one_more None = None
one_more (Some n) = Some (suc n)

abbrev pub counted : Judged → Option ℕ → Option ℕ
counted Wrong w = None
counted Early w = w
counted Exact w = one_more w

-- how many of the entries from an offset on are a slot's, where none is wrong and they end at the used length
unfoldable pub walked_in : List ℕ → ℕ → List Slot → ℕ → List Item → Option ℕ
walked_in log used ss at [] = pick (eqb at used) (Some 0) None
walked_in log used ss at (i ∷ is) = counted (judged_in log ss i is) (walked_in log used ss (next i) is)
