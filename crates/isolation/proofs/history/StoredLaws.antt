-- How the stored versions move with each event, and the heart of it: of two live writers of a key the lower had committed before the
-- higher began. Assumes nothing.
use Prim.Native.Nat.{ℕ, ◌<◌}
use native.Mathlib.Omega.{arith}
use mathlib.Core.Path.{◌≡◌, refl, sym, ◌∙◌}
use mathlib.Core.Logic.{◌≢◌, inl, inr, by_cases}
use Rattle.std.specs.Prelude.{Option, None, Some}
use mathlib.Core.List.{◌∷◌}
use native.Mathlib.Decide.{ℕ_discrete}
use Rattle.isolation.specs.history.History.{Key, Bytes, key≟}
use Rattle.isolation.specs.history.History.{Sight, Event, began, wrote, committed, undone, noted, History, Status, Status-discrete, unborn, opened, done, rolled, status, last_write, past, Clash}
use Rattle.isolation.proofs.history.Standing.{Good, good_nil, good_cons, Guard, g_began, g_wrote, g_committed, g_undone, g_noted, stored}
use Rattle.isolation.proofs.history.EventLaws.{status-began, status_began_other, status-wrote, status-noted, status-committed, status_committed_other, status-undone, status_undone_other, write_began, write_committed, write_undone, write_noted, write_same, write_other_txn, write_other_key, past_began_other, past-wrote, past-committed, past-undone, past-noted}
use Rattle.isolation.proofs.history.FactLaws.{nope, outside, good-after, within, unborn_writes, Start, start}

pub stored_began : {H : History} {h : Sight} → Good H → Guard H (began h) → (k : Key) (v : ℕ) → stored (began h ∷ H) k v ≡ stored H k v
stored_began {H} {h} g (g_began e s lw) k v = go (ℕ_discrete h.ver v)
  where
    go : Dec (h.ver ≡ v) → stored (began h ∷ H) k v ≡ stored H k v
    go (yes p) = let u : status H v ≡ unborn = outside g v (inr (omega arith)) in rw (write_began h H v k, unborn_writes g v k u, u, ← p, status-began h H)
    go (no n) = rw (status_began_other h H n, write_began h H v k)

pub stored_wrote : (H : History) (t : ℕ) → status H t ≡ opened → (k : Key) (o : Option Bytes) → stored (wrote t k o ∷ H) k t ≡ Some o
stored_wrote H t a k o = rw (status-wrote H t k o t, a, write_same H t k o)

pub stored_wrote_txn : (H : History) {t v : ℕ} (j : Key) (o : Option Bytes) (k : Key) → t ≢ v → stored (wrote t j o ∷ H) k v ≡ stored H k v
stored_wrote_txn H {t} {v} j o k n = rw (status-wrote H t j o v, write_other_txn H j o k n)

pub stored_wrote_key : (H : History) (t : ℕ) {j k : Key} (o : Option Bytes) (v : ℕ) → j ≢ k → stored (wrote t j o ∷ H) k v ≡ stored H k v
stored_wrote_key H t {j} {k} o v n = rw (status-wrote H t j o v, write_other_key H t o v n)

pub stored_committed : (H : History) (t : ℕ) → status H t ≡ opened → (k : Key) (v : ℕ) → stored (committed t ∷ H) k v ≡ stored H k v
stored_committed H t a k v = go (ℕ_discrete t v)
  where
    go : Dec (t ≡ v) → stored (committed t ∷ H) k v ≡ stored H k v
    go (yes p) = rw (← p, status-committed H t, a, write_committed t H t k)
    go (no n) = rw (status_committed_other H n, write_committed t H v k)

pub stored_undone : (H : History) (t : ℕ) (k : Key) → stored (undone t ∷ H) k t ≡ None
stored_undone H t k = rw (status-undone H t)

pub stored_undone_other : (H : History) {t v : ℕ} (k : Key) → t ≢ v → stored (undone t ∷ H) k v ≡ stored H k v
stored_undone_other H {t} {v} k n = rw (status_undone_other H n, write_undone t H v k)

pub stored_noted : (H : History) (k : Key) (v : ℕ) → stored (noted ∷ H) k v ≡ stored H k v
stored_noted H k v = rw (status-noted H v, write_noted H v k)

-- a stored version belongs to a transaction that is open or committed and wrote the key
pub data Alive (H : History) (k : Key) (x : ℕ) : Type 0 where
  alive_open : status H x ≡ opened → last_write H x k ≢ None → Alive H k x
  alive_done : status H x ≡ done → last_write H x k ≢ None → Alive H k x

pub alive : {H : History} (k : Key) (x : ℕ) → stored H k x ≢ None → Alive H k x
alive {H} k x n = go (status H x) refl
  where
    go : (s : Status) → status H x ≡ s → Alive H k x
    go unborn e = absurd (n (rw e))
    go opened e = alive_open e (λ q. n (rw (e, q)))
    go done e = alive_done e (λ q. n (rw (e, q)))
    go rolled e = absurd (n (rw e))

-- with no clash, every other stored version was committed before the transaction began
pub settle : {H : History} (t : ℕ) (k : Key) → ¬ Clash H t k → (x : ℕ) → x ≢ t → stored H k x ≢ None → status (past H t) x ≡ done
settle {H} t k c x d n = go (alive k x n)
  where
    go : Alive H k x → status (past H t) x ≡ done
    go (alive_open o w) = absurd (c (record { other = x; differs = d; writes = w; late = inl o }))
    go (alive_done o w) = by_cases (Status-discrete (status (past H t) x) done) (λ y. y) (λ y. absurd (c (record { other = x; differs = d; writes = w; late = inr (o, y) })))

-- one step: a stored version was stored, or is just written
pub data Fresh (H : History) (e : Event) (k : Key) (v : ℕ) : Type 0 where
  old : stored H k v ≢ None → past (e ∷ H) v ≡ past H v → Fresh H e k v
  new : status H v ≡ opened → ¬ Clash H v k → past (e ∷ H) v ≡ past H v → ((x : ℕ) → v ≢ x → stored (e ∷ H) k x ≡ stored H k x) → Fresh H e k v

pub fresh : {H : History} {e : Event} → Good H → Guard H e → (k : Key) (v : ℕ) → stored (e ∷ H) k v ≢ None → Fresh H e k v
fresh {H} g (g_began {h = h} e s lw) k v n = go (ℕ_discrete h.ver v)
  where
    go : Dec (h.ver ≡ v) → Fresh H (began h) k v
    go (yes p) = absurd (n (stored_began g (g_began {h = h} e s lw) k v ∙ rw (outside g v (inr (omega arith)))))
    go (no d) = old (λ q. n (stored_began g (g_began {h = h} e s lw) k v ∙ q)) (past_began_other h H d)
fresh {H} g (g_wrote {t = t} {k = j} {o = o} a c) k v n = go (ℕ_discrete t v) (key≟ j k)
  where
    go : Dec (t ≡ v) → Dec (j ≡ k) → Fresh H (wrote t j o) k v
    go (yes p) (yes r) = new (rw (← p) a) (rw (← p, ← r) c) (past-wrote H t j o v) (λ x d. stored_wrote_txn H j o k (λ q. d (sym p ∙ q)))
    go (yes p) (no d) = old (λ q. n (stored_wrote_key H t o v d ∙ q)) (past-wrote H t j o v)
    go (no d) r = old (λ q. n (stored_wrote_txn H j o k d ∙ q)) (past-wrote H t j o v)
fresh {H} g (g_committed {t = t} a) k v n = old (λ q. n (stored_committed H t a k v ∙ q)) (past-committed H t v)
fresh {H} g (g_undone {t = t} a) k v n = go (ℕ_discrete t v)
  where
    go : Dec (t ≡ v) → Fresh H (undone t) k v
    go (yes p) = absurd (n (rw (← p) (stored_undone H t k)))
    go (no d) = old (λ q. n (stored_undone_other H k d ∙ q)) (past-undone H t v)
fresh {H} g g_noted k v n = old (λ q. n (stored_noted H k v ∙ q)) (past-noted H v)

-- THE HEART: of two stored versions of a key, the lower was committed before the higher began
pub apart : {H : History} → Good H → (k : Key) (v w : ℕ) → v < w → stored H k v ≢ None → stored H k w ≢ None → status (past H w) v ≡ done
unfolding status
apart good_nil k v w l a b = absurd (a refl)
apart (good_cons {H = H} {e = e} g q) k v w l a b = go (apart g k v w l) (fresh g q k v a) (fresh g q k w b)
  where
    go : (stored H k v ≢ None → stored H k w ≢ None → status (past H w) v ≡ done) → Fresh H e k v → Fresh H e k w → status (past (e ∷ H) w) v ≡ done
    go rec (old x p) (old y r) = rw r (rec x y)
    go rec (old x p) (new o c r u) = rw r (settle w k c v (λ i. omega arith) x)
    go rec (new o c p u) f = absurd (high (start g v (λ i. nope (cc))))
      where
        first : stored H k w ≢ None
        first i = b (u w (λ i. omega arith) ∙ i)

        early : status (past H v) w ≡ done
        early = settle v k c w (λ i. omega arith) first

        high : Start H v → ⊥
        high s = let z = within (good-after s.after g) w (λ i. nope (cc (early))) in omega (arith, s.number)
