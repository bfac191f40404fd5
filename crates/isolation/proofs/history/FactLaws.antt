-- What holds of every history whose events were all allowed: versions begin in turn, what has ended stays ended. Assumes nothing.
use Prim.Native.Nat.{ℕ, suc, ◌≤◌, ◌<◌}
use native.Mathlib.Omega.{arith}
use mathlib.Core.Path.{◌≡◌, refl, ◌∙◌}
use mathlib.Core.Bool.{true}
use mathlib.Core.Logic.{◌≢◌, ◌⊎◌, inl, inr}
use Rattle.std.specs.Prelude.{None}
use mathlib.Core.List.{◌∷◌}
use native.Mathlib.Decide.{ℕ_discrete, dec_le}
use Rattle.isolation.specs.history.History.{Key}
use Rattle.mvcc.specs.world.Runs.{After, now, later}
use Rattle.isolation.specs.history.History.{Event, began, wrote, committed, undone, History, unborn, opened, status, last_write, past}
use Rattle.isolation.proofs.history.Standing.{begins, Good, good_nil, good_cons, Guard, g_began, g_wrote, g_committed, g_undone, g_noted, ended}
use Rattle.isolation.proofs.history.EventLaws.{status-began, status_began_other, status-wrote, status-noted, status-committed, status_committed_other, status-undone, status_undone_other, write_began, write_committed, write_undone, write_noted, write_other_txn, past-began, past_began_other, past-wrote, past-committed, past-undone, past-noted}

pub nope {ℓ} : {C : Type ℓ} → ◌≡◌ {A = ℕ} 0 1 → C
nope e = absurd (zero≢one e)
  where
    zero≢one : ◌≡◌ {A = ℕ} 0 1 → ⊥
    zero≢one p = omega arith

-- 0 and the numbers above the last begun are no transaction
pub outside : {H : History} → Good H → (v : ℕ) → (v ≡ 0) ⊎ (begins H < v) → status H v ≡ unborn
unfolding begins status
outside good_nil v o = refl
outside (good_cons {H = H} g (g_began {h = h} e s lw)) v o = rw (status_began_other h H (go o)) (outside g v (up o))
  where
    go : (v ≡ 0) ⊎ (suc (begins H) < v) → h.ver ≢ v
    go (inl p) q = omega arith
    go (inr p) q = omega arith

    up : (v ≡ 0) ⊎ (suc (begins H) < v) → (v ≡ 0) ⊎ (begins H < v)
    up (inl p) = inl p
    up (inr p) = inr (omega arith)
outside (good_cons {H = H} g (g_wrote a b)) v o = outside g v o
outside (good_cons {H = H} g (g_committed {t = t} a)) v o = go (outside g v o) (ℕ_discrete t v)
  where
    go : status H v ≡ unborn → Dec (t ≡ v) → status (committed t ∷ H) v ≡ unborn
    go u (yes p) = nope (cc)
    go u (no n) = status_committed_other H n ∙ u
outside (good_cons {H = H} g (g_undone {t = t} a)) v o = go (outside g v o) (ℕ_discrete t v)
  where
    go : status H v ≡ unborn → Dec (t ≡ v) → status (undone t ∷ H) v ≡ unborn
    go u (yes p) = nope (cc)
    go u (no n) = status_undone_other H n ∙ u
outside (good_cons g g_noted) v o = outside g v o

-- one step: how a transaction's standing moves
pub data Move (H : History) (e : Event) (v : ℕ) : Type 0 where
  same : status (e ∷ H) v ≡ status H v → past (e ∷ H) v ≡ past H v → Move H e v
  birth : status H v ≡ unborn → status (e ∷ H) v ≡ opened → past (e ∷ H) v ≡ H → suc (begins H) ≡ v → Move H e v
  ending : status H v ≡ opened → ended (status (e ∷ H) v) ≡ true → past (e ∷ H) v ≡ past H v → Move H e v

pub move : {H : History} {e : Event} → Good H → Guard H e → (v : ℕ) → Move H e v
move {H} g (g_began {h = h} e s lw) v = go (ℕ_discrete h.ver v)
  where
    go : Dec (h.ver ≡ v) → Move H (began h) v
    go (yes p) = birth (rw (← p) (outside g h.ver (inr (omega arith)))) (rw (← p) (status-began h H)) (rw (← p) (past-began h H)) (omega arith)
    go (no n) = same (status_began_other h H n) (past_began_other h H n)
move {H} g (g_wrote {t = t} {k = k} {o = o} a b) v = same (status-wrote H t k o v) (past-wrote H t k o v)
move {H} g (g_committed {t = t} a) v = go (ℕ_discrete t v)
  where
    go : Dec (t ≡ v) → Move H (committed t) v
    go (yes p) = ending (rw (← p) a) (rw (← p) (rw (status-committed H t))) (past-committed H t v)
    go (no n) = same (status_committed_other H n) (past-committed H t v)
move {H} g (g_undone {t = t} a) v = go (ℕ_discrete t v)
  where
    go : Dec (t ≡ v) → Move H (undone t) v
    go (yes p) = ending (rw (← p) a) (rw (← p) (rw (status-undone H t))) (past-undone H t v)
    go (no n) = same (status_undone_other H n) (past-undone H t v)
move {H} g g_noted v = same (status-noted H v) (past-noted H v)

-- one step: only an open transaction's writes change
pub write_step : {H : History} {e : Event} → Guard H e → (v : ℕ) (k : Key) → (status H v ≡ opened) ⊎ (last_write (e ∷ H) v k ≡ last_write H v k)
write_step {H} (g_began {h = h} e s lw) v k = inr (write_began h H v k)
write_step {H} (g_wrote {t = t} {k = j} {o = o} a b) v k = go (ℕ_discrete t v)
  where
    go : Dec (t ≡ v) → (status H v ≡ opened) ⊎ (last_write (wrote t j o ∷ H) v k ≡ last_write H v k)
    go (yes p) = inl (rw (← p) a)
    go (no n) = inr (write_other_txn H j o k n)
write_step {H} (g_committed {t = t} a) v k = inr (write_committed t H v k)
write_step {H} (g_undone {t = t} a) v k = inr (write_undone t H v k)
write_step {H} g_noted v k = inr (write_noted H v k)

pub good-after : {H1 H : History} → After H1 H → Good H → Good H1
good-after now g = g
good-after (later a) (good_cons g q) = good-after a g

-- a transaction that ended stays as it was
pub ended-stays : {H1 H : History} → After H1 H → Good H → (v : ℕ) → ended (status H1 v) ≡ true → status H v ≡ status H1 v
ended-stays now g v e = refl
ended-stays {H1} (later {H = H} {e = x} a) (good_cons g q) v e = go (ended-stays a g v e) (move g q v)
  where
    go : status H v ≡ status H1 v → Move H x v → status (x ∷ H) v ≡ status H1 v
    go i (same p _) = p ∙ i
    go i (birth p r _ _) = nope (cc)
    go i (ending p r _) = nope (cc)

pub writes_stay : {H1 H : History} → After H1 H → Good H → (v : ℕ) (k : Key) → ended (status H1 v) ≡ true → last_write H v k ≡ last_write H1 v k
writes_stay now g v k e = refl
writes_stay {H1} (later {H = H} {e = x} a) (good_cons g q) v k e = go (ended-stays a g v e) (writes_stay a g v k e) (write_step q v k)
  where
    go : status H v ≡ status H1 v → last_write H v k ≡ last_write H1 v k → (status H v ≡ opened) ⊎ (last_write (x ∷ H) v k ≡ last_write H v k) → last_write (x ∷ H) v k ≡ last_write H1 v k
    go i w (inl p) = nope (cc)
    go i w (inr p) = p ∙ w

-- once begun, a transaction never is unborn again
pub born-stays : {H : History} {e : Event} → Good H → Guard H e → (v : ℕ) → status H v ≢ unborn → status (e ∷ H) v ≢ unborn
born-stays {H} {e} g q v n = go (move g q v)
  where
    go : Move H e v → status (e ∷ H) v ≢ unborn
    go (same p _) u = n (cc)
    go (birth p r _ _) u = nope (cc)
    go (ending p r _) u = nope (cc)

pub born : {H : History} → Good H → (v : ℕ) → 0 < v → v ≤ begins H → status H v ≢ unborn
unfolding begins
born good_nil v a b = omega arith
born (good_cons {H = H} g (g_began {h = h} e s lw)) v a b = go (λ x. born g v a x) (ℕ_discrete h.ver v)
  where
    go : (v ≤ begins H → status H v ≢ unborn) → Dec (h.ver ≡ v) → status (began h ∷ H) v ≢ unborn
    go rec (yes p) u = nope (cc (status-began h H))
    go rec (no n) u = born-stays g (g_began {h = h} e s lw) v (rec (omega arith)) u
born (good_cons g (g_wrote {t = t} {k = k} {o = o} x y)) v a b = born-stays g (g_wrote {t = t} {k = k} {o = o} x y) v (born g v a b)
born (good_cons g (g_committed {t = t} x)) v a b = born-stays g (g_committed {t = t} x) v (born g v a b)
born (good_cons g (g_undone {t = t} x)) v a b = born-stays g (g_undone {t = t} x) v (born g v a b)
born (good_cons g g_noted) v a b = born-stays g g_noted v (born g v a b)

-- what has begun is no 0, and not above the last begun
pub within : {H : History} → Good H → (v : ℕ) → status H v ≢ unborn → (0 < v) × (v ≤ begins H)
within {H} g v n = (low (ℕ_discrete v 0), high (dec_le v (begins H)))
  where
    low : Dec (v ≡ 0) → 0 < v
    low (yes p) = absurd (n (outside g v (inl p)))
    low (no p) = omega arith

    high : Dec (v ≤ begins H) → v ≤ begins H
    high (yes p) = p
    high (no p) = absurd (n (outside g v (inr (omega arith))))

-- who has not begun has written nothing
pub unborn_writes : {H : History} → Good H → (v : ℕ) (k : Key) → status H v ≡ unborn → last_write H v k ≡ None
unfolding last_write
unborn_writes good_nil v k u = refl
unborn_writes (good_cons {H = H} {e = x} g q) v k u = go (λ i. unborn_writes g v k i) (move g q v) (write_step q v k)
  where
    go : (status H v ≡ unborn → last_write H v k ≡ None) → Move H x v → (status H v ≡ opened) ⊎ (last_write (x ∷ H) v k ≡ last_write H v k) → last_write (x ∷ H) v k ≡ None
    go rec (same p _) (inl r) = nope (cc)
    go rec (same p _) (inr r) = r ∙ rec (cc)
    go rec (birth p r _ _) c = nope (cc)
    go rec (ending p r _) c = nope (cc)

-- where a transaction began
pub record Start (H : History) (w : ℕ) : Type 0 where
  pub after : After (past H w) H
  pub number : suc (begins (past H w)) ≡ w

pub start : {H : History} → Good H → (w : ℕ) → status H w ≢ unborn → Start H w
unfolding status
start good_nil w n = absurd (n refl)
start (good_cons {H = H} {e = x} g q) w n = go (λ i. start g w i) (move g q w)
  where
    go : (status H w ≢ unborn → Start H w) → Move H x w → Start (x ∷ H) w
    go rec (same p r) = let s = rec (λ u. n (p ∙ u)) in record { after = rw r (later s.after); number = rw r s.number }
    go rec (birth p o r e) = record { after = rw r (later now); number = rw r e }
    go rec (ending p d r) = let s = rec (λ u. nope (cc)) in record { after = rw r (later s.after); number = rw r s.number }
