-- Theorem: what a get shows. Assumes nothing.
use Prim.Native.Nat.{◌≤◌}
use mathlib.Core.Path.{◌≡◌, refl, sym, ap, ◌∙◌, subst}
use mathlib.Core.Bool.{Bool, true, false, ◌||◌}
use mathlib.Core.Logic.{inl, inr}
use mathlib.Core.List.{List}
use lib.Dec.{leb}
use lib.ListN.{length}
use borrow.Author.Tests.{le-leb}
use Rattle.std.specs.Prelude.{Result, Ok, Err, Option, Some}
use Rattle.keycode.specs.declared.refusal.Refusal.{Refusal}
use Rattle.keycode.specs.Tests.{pick}
use Rattle.keycode.specs.Limits.{max_key}
use Rattle.keycode.specs.declared.refusal.Refusal.TheVariants.{Absent, KeyTooLong}
use Rattle.keycode.specs.declared.parts.Part.{Part}
use Rattle.keycode.proofs.Basics.{nope}
use Rattle.bitcask.specs.recovery.Map.{Pair, pairs_of}
use Rattle.bitcask.specs.recovery.Recover.{map_of}
use Rattle.bitcask.specs.engine.Rows.{rows_in}
use Rattle.bitcask.specs.engine.Ranges.{keep_rows}
use Rattle.bitcask.specs.recovery.Agree.{fit}
use Rattle.mvcc.specs.declared.handle.Handle.{Handle}
use Rattle.mvcc.specs.handle.Handles.{sound_handle}
use Rattle.mvcc.specs.request.Checks.{admit_by, open_in}
use Rattle.mvcc.specs.declared.version.Seen.{Seen}
use Rattle.mvcc.specs.declared.version.Seen.TheVariants.{Hidden, Gone, Bad, Value}
use Rattle.mvcc.specs.version.Seen.{last_rows, located_seen, version_test, value_for}
use Rattle.mvcc.specs.read.Promises.{checked, get_answer, Gets}
use Rattle.mvcc.proofs.read.ShowLaws.{get_shows, get_none, get_broken}
use Rattle.isolation.specs.history.History.{Key, Bytes, is_open}
use Rattle.isolation.specs.history.Records.{Map, Sorted}
use Rattle.isolation.specs.history.Calls.{shown}
use Rattle.isolation.specs.history.Run.{usable}
use Rattle.isolation.proofs.history.RunLaws.{run-sorted, run_open, get_writer, get_reader, get_as_of, get_as_of_0}
use Rattle.isolation.specs.records.Stored.{key_order, sight_of}
use Rattle.isolation.proofs.records.OrderLaws.{order}
use Rattle.isolation.proofs.records.SeenLaws.{value-pairs}
use Rattle.mvcc.specs.world.World.{World, Calls}
use Rattle.mvcc.specs.world.Runs.{Given, by_begin, by_reading, by_as_of}
use Rattle.isolation.specs.Views.{Usable, Sees, writer, reader, as_of, as_of_none, Shows}
use Rattle.isolation.proofs.GivenLaws.{began_trace, read_trace, as_of_trace}
use Rattle.isolation.proofs.KeptLaws.{Sound, Kept, Ready}
use Rattle.isolation.proofs.OpenLaws.{open_usable}

pub sees-given : {T : Calls} {h : Handle} {f : Key → Option Bytes} → Sees T h f → Given h T
sees-given (writer a g e) = by_begin a g
sees-given (reader a g e) = by_reading a g
sees-given (as_of a g n e) = by_as_of a g
sees-given (as_of_none a g e) = by_as_of a g

module _ {w : World} {T : Calls} {m : Map} (k : Kept w T m) where
  sorted : Sorted key_order m
  sorted = run-sorted order k.run

  pub usable_in : (h : Handle) → Usable T h → usable m (sight_of h) ≡ true
  usable_in h (inl r) = rw r
  usable_in h (inr o) = or_true h.read_only (run_open order k.run h.version ∙ ap is_open o)
    where
      or_true : (b : Bool) {c : Bool} → c ≡ true → (b || c) ≡ true
      or_true true e = refl
      or_true false e = e

  -- what the records show is what the handle is to see
  pub sees-shown : {h : Handle} {f : Key → Option Bytes} → Sees T h f → Usable T h → (key : Key) → shown m (sight_of h) key ≡ f key
  sees-shown {h} (writer {r = r} a g e) u key = get_writer order k.run (sight_of h) (began_trace r g a) (usable_in h u) key ∙ sym (e key)
  sees-shown {h} (reader {r = r} a g e) u key = get_reader order k.run (sight_of h) (read_trace r g a) key ∙ sym (e key)
  sees-shown {h} (as_of {v = v} {r = r} a g n e) u key = get_as_of order k.run (sight_of h) v (as_of_trace r g v a) n key ∙ sym (e key)
  sees-shown {h} (as_of_none {r = r} a g e) u key = get_as_of_0 order k.run (sight_of h) (as_of_trace r g 0 a) key ∙ sym (e key)

  -- the store's own test of a usable handle
  open_in_lem : {h : Handle} → Sound h → Usable T h → open_in w.log w.used h ≡ true
  open_in_lem {h} s u = open_usable k s ∙ usable_in h u

-- ---- get

passed_by_lem : (f g o b : Bool) (s : Seen) (r : Result Part Refusal) → r ≡ checked (admit_by f g o) (pick b (located_seen s) (Err KeyTooLong)) → f ≡ true → g ≡ true → o ≡ true → b ≡ true → r ≡ located_seen s
unfolding admit_by
passed_by_lem f g o b s r e p q i j = e ∙ rw (p, q, i, j)

module _ {w : World} {T : Calls} {m : Map} (k : Kept w T m) (a : Ready w) {h : Handle} {f : Key → Option Bytes} (s : Sees T h f) (u : Usable T h) {key : Key} (l : length key ≤ max_key) {r : Result Part Refusal}
    (b : Gets w.log w.used w.table h key r) where
  sound : Sound h
  sound = k.handles h (sees-given s)

  value-is : value_for h (pairs_of (version_test key h.version) (map_of w.log w.used)) ≡ Some (f key)
  value-is = ap (λ (x : List Pair). value_for h (pairs_of (version_test key h.version) x)) k.map ∙ value-pairs h key sound.fits k.fine ∙ ap Some (sees-shown k s u key)

  abbrev seen : Seen
  seen = last_rows h (keep_rows (version_test key h.version) (rows_in w.log w.used))

  located : r ≡ located_seen seen
  unfolding get_answer
  located =
      passed_by_lem (fit (length w.log) w.used (length w.table)) (sound_handle h) (open_in w.log w.used h) (leb (length key) max_key) seen r (b.answer a) a.sound sound.sound
      (open_in_lem k sound u) (le-leb (length key) max_key l)

  some_is : {x y : Option Bytes} → Some x ≡ Some y → x ≡ y
  some_is e = cc

  pub got-shows : Shows w.log r (f key)
  got-shows = go seen located
    where
      at : (p : Part) → r ≡ Ok p → Shows w.log r (f key)
      at p e = subst (Shows w.log r) (some_is (sym (get_shows a b p e) ∙ value-is)) (p, e, refl)

      absent : r ≡ Err Absent → Shows w.log r (f key)
      absent e = subst (Shows w.log r) (some_is (sym (get_none a b e) ∙ value-is)) e

      go : (x : Seen) → r ≡ located_seen x → Shows w.log r (f key)
      go Hidden e = absent e
      go Gone e = absent e
      go Bad e = nope (cc (sym (get_broken a b e) ∙ value-is))
      go (Value p) e = at p e
