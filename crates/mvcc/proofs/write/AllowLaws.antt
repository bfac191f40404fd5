-- The checks before the search: what the code answers, and the numbers of a request. Assumes nothing.
use Prim.Native.Nat.{ℕ}
use mathlib.Core.Path.{◌≡◌, refl, sym, ◌∙◌}
use mathlib.Core.Bool.{Bool, true, false}
use Rattle.std.specs.Prelude.{Result, ⊤, Ok, Err}
use Rattle.keycode.specs.Tests.{pick}
use Rattle.keycode.specs.Refusals.{number_of}
use Rattle.keycode.specs.declared.refusal.Refusal.{Refusal}
use Rattle.keycode.specs.declared.refusal.Refusal.TheVariants.{ReadOnly, NotOpen, KeyTooLong, ValueTooLong, BadRequest}
use Rattle.keycode.proofs.Basics.{nope}
use Rattle.mvcc.specs.declared.handle.Handle.{Handle}
use Rattle.mvcc.specs.request.Checks.{own_version, open_by, admit_by}
use Rattle.mvcc.proofs.request.CheckLaws.{open_read, admit_fine}
use Rattle.mvcc.specs.append.Lays.{sizes_by}
use Rattle.mvcc.specs.write.Writes.{allow_by}
use Rattle.mvcc.specs.write.Promises.{may_write, Early}
use Rattle.mvcc.proofs.append.LayLaws.{Late, late_done, late_unseen, late-log, late-table, late-bad}

-- ---- what the code answers

-- a read-only handle is open, so that 3 is not its answer
refused_by_lem : (fits sound reads active short small : Bool) (r : Refusal) → (reads ≡ true → active ≡ true) → admit_by fits sound active ≡ Err r → Err r ≡ allow_by fits sound reads active short small
unfolding admit_by allow_by
refused_by_lem false sound reads active short small r k f = sym f
refused_by_lem true false reads active short small r k f = sym f
refused_by_lem true true true true short small r k f = nope (cc)
refused_by_lem true true true false short small r k f = let z : ◌≡◌ {A = Bool} false true = k refl in nope (cc)
refused_by_lem true true false true short small r k f = nope (cc)
refused_by_lem true true false false short small r k f = sym f

module _ (fits sound : Bool) (h : Handle) (live short small : Bool) (x : Result ⊤ Refusal) (e : x ≡ admit_by fits sound (open_by h live)) where
  pub allow_refused : (r : Refusal) → x ≡ Err r → Err r ≡ allow_by fits sound h.read_only (open_by h live) short small
  allow_refused r q = refused_by_lem fits sound h.read_only (open_by h live) short small r (λ t. sym (open_read h live t)) (sym e ∙ q)

  module _ (q : x ≡ (Ok tt)) where
    pub allow_reads : h.read_only ≡ true → Err ReadOnly ≡ allow_by fits sound h.read_only (open_by h live) short small
    unfolding allow_by
    allow_reads t = let w = admit_fine fits sound (open_by h live) (sym q ∙ e) in rw (w.sizes, w.handle, t)

    pub allow_sizes : h.read_only ≡ false → (c : Result ⊤ Refusal) → c ≡ sizes_by short small → c ≡ allow_by fits sound h.read_only (open_by h live) short small
    unfolding allow_by
    allow_sizes t c ec = let w = admit_fine fits sound (open_by h live) (sym q ∙ e) in ec ∙ rw (w.sizes, w.handle, w.opened, t)

-- ---- the numbers

open_own : (h : Handle) (live : Bool) → h.read_only ≡ false → open_by h live ≡ true → own_version h.version ≡ true
unfolding open_by
open_own h live t e = go (own_version h.version) (rw t at e)
  where
    go : (o : Bool) → pick o live false ≡ true → o ≡ true
    go true f = refl
    go false f = nope (cc)

early_refused_by : (fits sound reads own active short small : Bool) → (reads ≡ false → active ≡ true → own ≡ true) → (r : Refusal)
    → allow_by fits sound reads active short small ≡ Err r → Early fits sound reads own short small (number_of r)
unfolding allow_by sizes_by may_write
early_refused_by false sound reads own active short small k r e =
    let q : r ≡ BadRequest = cc in rw q (record { bad = refl; read_only = refl; not_open = refl; key_long = refl; value_long = refl })
early_refused_by true false reads own active short small k r e =
    let q : r ≡ BadRequest = cc in rw q (record { bad = refl; read_only = refl; not_open = refl; key_long = refl; value_long = refl })
early_refused_by true true true own active short small k r e =
    let q : r ≡ ReadOnly = cc in rw q (record { bad = refl; read_only = refl; not_open = refl; key_long = refl; value_long = refl })
early_refused_by true true false true false short small k r e =
    let q : r ≡ NotOpen = cc in rw q (record { bad = refl; read_only = refl; not_open = refl; key_long = refl; value_long = refl })
early_refused_by true true false false false short small k r e =
    let q : r ≡ NotOpen = cc in rw q (record { bad = refl; read_only = refl; not_open = refl; key_long = refl; value_long = refl })
early_refused_by true true false false true short small k r e = let z : ◌≡◌ {A = Bool} false true = k refl refl in nope (cc)
early_refused_by true true false true true false small k r e =
    let q : r ≡ KeyTooLong = cc in rw q (record { bad = refl; read_only = refl; not_open = refl; key_long = refl; value_long = refl })
early_refused_by true true false true true true false k r e =
    let q : r ≡ ValueTooLong = cc in rw q (record { bad = refl; read_only = refl; not_open = refl; key_long = refl; value_long = refl })
early_refused_by true true false true true true true k r e = nope (cc)

-- what a request that is allowed is
pub record Allowed (fits sound reads active short small : Bool) : Type 0 where
  pub sizes : fits ≡ true
  pub handle : sound ≡ true
  pub writes : reads ≡ false
  pub opened : active ≡ true
  pub key : short ≡ true
  pub value : small ≡ true

pub allow_fine : (fits sound reads active short small : Bool) → allow_by fits sound reads active short small ≡ (Ok tt) → Allowed fits sound reads active short small
unfolding allow_by sizes_by
allow_fine false sound reads active short small e = nope (cc)
allow_fine true false reads active short small e = nope (cc)
allow_fine true true true active short small e = nope (cc)
allow_fine true true false false short small e = nope (cc)
allow_fine true true false true false small e = nope (cc)
allow_fine true true false true true false e = nope (cc)
allow_fine true true false true true true e = record { sizes = refl; handle = refl; writes = refl; opened = refl; key = refl; value = refl }

late-early : {n : ℕ} → Late n → Early true true false true true true n
unfolding may_write
late-early late_done = record { bad = refl; read_only = refl; not_open = refl; key_long = refl; value_long = refl }
late-early late_unseen = record { bad = refl; read_only = refl; not_open = refl; key_long = refl; value_long = refl }
late-early late-log = record { bad = refl; read_only = refl; not_open = refl; key_long = refl; value_long = refl }
late-early late-table = record { bad = refl; read_only = refl; not_open = refl; key_long = refl; value_long = refl }
late-early late-bad = record { bad = refl; read_only = refl; not_open = refl; key_long = refl; value_long = refl }

module _ (fits sound : Bool) (h : Handle) (live short small : Bool) where
  pub early_refused : (r : Refusal) → allow_by fits sound h.read_only (open_by h live) short small ≡ Err r
      → Early fits sound h.read_only (own_version h.version) short small (number_of r)
  early_refused r e = early_refused_by fits sound h.read_only (own_version h.version) (open_by h live) short small (open_own h live) r e

  pub early-late : allow_by fits sound h.read_only (open_by h live) short small ≡ (Ok tt) → (n : ℕ) → Late n → Early fits sound h.read_only (own_version h.version) short small n
  early-late e n l =
      let w = allow_fine fits sound h.read_only (open_by h live) short small e in
      rw (w.sizes, w.handle, w.writes, w.key, w.value, open_own h live w.writes w.opened) (late-early l)
