-- What the code of an append does, by what its callees promise, and the room test. Assumes nothing.
use Prim.Native.Nat.{ℕ, ◌+◌}
use mathlib.Core.Path.{◌≡◌, ap}
use mathlib.Core.List.{List, ◌++◌}
use lib.ListN.{length, length-append}
use Rattle.std.specs.Prelude.{Result, ℕ}
use Rattle.keycode.specs.Buffer.{put}
use Rattle.bitcask.specs.entry.Entry.{Entry, set, del, bytes_of, size_of}
use Rattle.bitcask.specs.declared.keydir.slots.Slot.{Slot}
use Rattle.bitcask.specs.keydir.Slots.{slots_of}
use Rattle.bitcask.specs.keydir.Place.{place_of, entered, cut_at, Becomes, Among}
use Rattle.bitcask.proofs.keydir.SlotLaws.{slots_length}
use Rattle.bitcask.proofs.keydir.PlaceLaws.{place-among}
use Rattle.bitcask.specs.change.Append.{slots_after, appended, wants, fresh_in}

-- ---- one entry

-- the place that was found lies in the slots
pub found_among : (log key t : List ℕ) (n : ℕ) (f : Result ℕ ℕ) → f ≡ place_of log key (slots_of n t) → Among n f
found_among log key t n f e = rw e (rw (slots_length n t) at (place-among log key (slots_of n t)))

pub appended-is : (log t : List ℕ) (used n : ℕ) (e : Entry) (log' t' : List ℕ) (u c : ℕ) → log' ≡ put log used (bytes_of e) → u ≡ used + size_of e
    → Becomes t n (slots_after log used t e (slots_of n t)) t' c
    → record { log = log'; used = u; table = t'; count = c } ≡ appended (record { log = log; used = used; table = t; count = n }) e
unfolding appended
appended-is log t used n e log' t' u c p q b = λ j. record { log = p j; used = q j; table = b.words j; count = b.count j }

pub set_becomes : (log t : List ℕ) (used n : ℕ) (key head body : List ℕ) (f : Result ℕ ℕ) (t' : List ℕ) (c : ℕ) → f ≡ place_of log key (slots_of n t)
    → {s : Slot} → s ≡ record { place = used + 1; klen = length key; vlen = length head + length body } → Becomes t n (entered t s f (slots_of n t)) t' c
    → Becomes t n (slots_after log used t (set key (head ++ body)) (slots_of n t)) t' c
set_becomes log t used n key head body f t' c e es b = rw (← e, length-append head body, ← es) b

pub del_becomes : (log t : List ℕ) (used n : ℕ) (key : List ℕ) (f : Result ℕ ℕ) (t' : List ℕ) (c : ℕ) → f ≡ place_of log key (slots_of n t)
    → Becomes t n (cut_at f (slots_of n t)) t' c → Becomes t n (slots_after log used t (del key) (slots_of n t)) t' c
del_becomes log t used n key f t' c e b = rw (← e) b

-- ---- how many slots a key wants

pub fresh_is : (log key : List ℕ) (ss : List Slot) (f : Result ℕ ℕ) → f ≡ place_of log key ss → wants f ≡ fresh_in log key ss
unfolding fresh_in
fresh_is log key ss f e = ap wants e
