-- What a begin appends: the two or three sets by the codes of their keys, and the answer with its handle. Assumes nothing.
use Prim.Native.Nat.{ℕ, zero, suc, ◌+◌}
use mathlib.Core.Path.{◌≡◌, refl, sym, ap, ◌∙◌, subst}
use mathlib.Core.List.{List, [], ◌∷◌, ◌++◌, append-nil}
use native.Mathlib.Omega.{arith}
use lib.ListN.{length, take, drop, drop_of_length-le}
use lib.Seq.{take_at}
use Rattle.std.specs.Prelude.{Result}
use Rattle.std.specs.declared.cmp.Ordering.TheVariants.{Less}
use Rattle.keycode.specs.Buffer.{put}
use Rattle.keycode.specs.Order.{compare_nat, compare_bytes}
use Rattle.keycode.specs.key.Keys.{encode, next_version, txn_active, txn_active_snapshot}
use Rattle.keycode.specs.declared.code.Code.{Code}
use Rattle.keycode.specs.code.Codes.{Codes}
use Rattle.keycode.proofs.BufferLaws.{put_front}
use Rattle.keycode.specs.declared.refusal.Refusal.{Refusal}
use Rattle.bitcask.specs.declared.request.Used.{Used}
use Rattle.bitcask.specs.declared.engine.mark.Mark.{Mark}
use Rattle.mvcc.specs.declared.handle.Handle.{Handle}
use Rattle.mvcc.specs.handle.Handles.{set_of}
use Rattle.mvcc.specs.payload.Payloads.{version_bytes, set_bytes}
use Rattle.mvcc.specs.append.Appends.{Appends}
use Rattle.mvcc.proofs.append.PairLaws.{pair_of}
use Rattle.mvcc.proofs.append.ThreeLaws.{three_of}
use Rattle.mvcc.specs.start.Plan.{snapshot_by, plan_by}

-- the front of a buffer in which bytes were laid
pub front-laid : (d xs : List ℕ) (n : ℕ) {out : List ℕ} → out ≡ put d 0 xs → n ≡ length xs → take n out ≡ xs
front-laid d xs n e en = ap (take n) (e ∙ put_front d xs) ∙ take_at xs (drop (length xs) d) n (sym en)

-- a buffer that the bytes fill
pub whole-laid : (d xs : List ℕ) {out : List ℕ} → out ≡ put d 0 xs → length d ≡ length xs → out ≡ xs
whole-laid d xs e h = e ∙ put_front d xs ∙ ap (λ (y : List ℕ). xs ++ y) (drop_of_length-le d {i = length xs} (omega arith)) ∙ append-nil xs

-- ---- the keys rise: NextVersion, TxnActive, TxnActiveSnapshot

next-first : (a b : List ℕ) → compare_bytes (0 ∷ a) (1 ∷ b) ≡ Less
unfolding compare_bytes compare_nat
next-first a b = refl

own_first : (a b : List ℕ) → compare_bytes (1 ∷ a) (2 ∷ b) ≡ Less
unfolding compare_bytes compare_nat
own_first a b = refl

pub next_less : (v : ℕ) {a b : Code} → Codes a (encode next_version) → Codes b (encode (txn_active v)) → compare_bytes (take a.len a.bytes) (take b.len b.bytes) ≡ Less
next_less v wa wb = rw (wa.says, wb.says) (next-first _ _)

pub own_less : (v : ℕ) {b c : Code} → Codes b (encode (txn_active v)) → Codes c (encode (txn_active_snapshot v)) → compare_bytes (take b.len b.bytes) (take c.len c.bytes) ≡ Less
own_less v wb wc = rw (wb.says, wc.says) (own_first _ _)

-- ---- the entries

module _ (log t : List ℕ) (m : Mark) (k v : ℕ) (p : List ℕ) (a b : Code) (value : List ℕ) (r : Result Used Refusal) (log' t' : List ℕ) (wa : Codes a (encode next_version)) (wb : Codes b (encode (txn_active v)))
    (ev : value ≡ version_bytes (v + 1)) where
  pub plan_two : k ≡ 0 → Appends log t m (pair_of (take a.len a.bytes) value (take b.len b.bytes) []) r log' t' → Appends log t m (plan_by k v p) r log' t'
  unfolding plan_by snapshot_by
  plan_two e w = rw e (rw (wa.says, wb.says, ev) at w)

  pub plan_three : (k ≡ 0 → ⊥) → (c : Code) → Codes c (encode (txn_active_snapshot v))
      → Appends log t m (three_of (take a.len a.bytes) value (take c.len c.bytes) p (take b.len b.bytes)) r log' t'
      → Appends log t m (plan_by k v p) r log' t'
  plan_three n c wc w = go k n
    where
      go : (i : ℕ) → (i ≡ 0 → ⊥) → Appends log t m (plan_by i v p) r log' t'
      go zero h = absurd (h refl)
      go (suc i) h = unfold plan_by snapshot_by in (rw (wa.says, wb.says, wc.says, ev) at w)

-- the payload is the handle's set
pub set_laid : (log t : List ℕ) (m : Mark) (k : ℕ) (h : Handle) {p : List ℕ} → p ≡ set_bytes (set_of h) → {c : Result Used Refusal} {log' t' : List ℕ}
    → Appends log t m (plan_by k h.version p) c log' t' → Appends log t m (plan_by k h.version (set_bytes (set_of h))) c log' t'
set_laid log t m k h ep {c} {log'} {t'} w = subst (λ (b : List ℕ). Appends log t m (plan_by k h.version b) c log' t') ep w
