-- The first checks of a call with a handle that the store gave: its test whether the handle is open is the one of the records, so that the
-- calls pass or stop there as the history says. Assumes nothing.
use Prim.Native.Nat.{ℕ, ◌-◌, ◌^◌, ◌<◌}
use mathlib.Core.Path.{◌≡◌, refl, ap, ◌∙◌}
use mathlib.Core.Bool.{Bool, true, false, ◌||◌}
use mathlib.Core.List.{List}
use native.Mathlib.Omega.{arith}
use borrow.Author.Tests.{ne_eqb}
use Rattle.std.specs.Prelude.{Ok}
use Rattle.keycode.specs.Tests.{pick}
use Rattle.keycode.specs.key.Keys.{txn_active}
use Rattle.bitcask.specs.recovery.Map.{Pair, live_in}
use Rattle.mvcc.specs.declared.handle.Handle.{Handle}
use Rattle.mvcc.specs.request.Checks.{active_key, own_version, open_by, admit_by, open_in}
use Rattle.isolation.specs.history.Records.{Map, look}
use Rattle.isolation.specs.history.Store.{is_some}
use Rattle.isolation.specs.history.Run.{usable}
use Rattle.isolation.proofs.history.RunLaws.{run-sorted}
use Rattle.isolation.specs.records.Stored.{sight_of}
use Rattle.isolation.proofs.records.OrderLaws.{order}
use Rattle.isolation.proofs.records.PairLaws.{live-pairs}
use Rattle.mvcc.specs.world.World.{World, Calls}
use Rattle.isolation.proofs.EndedLaws.{admits}
use Rattle.isolation.proofs.KeptLaws.{Sound, Kept, Ready}

own_version_lem : (v : ℕ) → 0 < v → v < 2 ^ 64 - 1 → own_version v ≡ true
unfolding own_version
own_version_lem v a b = rw (ne_eqb v 0 (λ e. omega arith), ne_eqb v (2 ^ 64 - 1) (λ e. omega arith))

module _ {w : World} {T : Calls} {m : Map} {h : Handle} (k : Kept w T m) (s : Sound h) where
  -- the call's test of the handle is the history's
  pub open_usable : open_in w.log w.used h ≡ usable m (sight_of h)
  unfolding open_by
  open_usable =
      ap (λ (l : List Pair). open_by h (live_in (active_key h) l)) k.map
      ∙ ap (open_by h) (live-pairs (txn_active h.version) (run-sorted order k.run)) ∙ go h.read_only s.own
    where
      go : (b : Bool) → (b ≡ false → (0 < h.version) × (h.version < 2 ^ 64 - 1))
          → pick b true (pick (own_version h.version) (is_some (look m (txn_active h.version))) false) ≡ b || is_some (look m (txn_active h.version))
      go true o = refl
      go false o = rw (own_version_lem h.version (o refl).0 (o refl).1)

  pub checks_pass : Ready w → usable m (sight_of h) ≡ true → admits w.log w.used w.table h ≡ (Ok tt)
  unfolding admit_by
  checks_pass a u = rw (a.sound, s.sound, open_usable, u)
