-- The definitions of History, one event at a time: what it changes, and that it changes nothing else. Assumes nothing.
use Prim.Native.Nat.{ℕ}
use mathlib.Core.Path.{◌≡◌, refl, ◌∙◌}
use mathlib.Core.Logic.{◌≢◌, ite, if_pos, if_neg}
use Rattle.std.specs.Prelude.{Option, Some}
use mathlib.Core.List.{◌∷◌}
use native.Mathlib.Decide.{ℕ_discrete}
use Rattle.isolation.specs.history.History.{Key, Bytes, key≟}
use Rattle.isolation.specs.history.History.{Sight, began, wrote, committed, undone, noted, History, opened, done, rolled, status, last_write, past}

pub status-began : (h : Sight) (H : History) → status (began h ∷ H) h.ver ≡ opened
unfolding status
status-began h H = if_pos (ℕ_discrete h.ver h.ver) refl opened (status H h.ver)

pub status_began_other : (h : Sight) (H : History) {v : ℕ} → h.ver ≢ v → status (began h ∷ H) v ≡ status H v
unfolding status
status_began_other h H {v} n = if_neg (ℕ_discrete h.ver v) n opened (status H v)

pub status-wrote : (H : History) (t : ℕ) (k : Key) (o : Option Bytes) (v : ℕ) → status (wrote t k o ∷ H) v ≡ status H v
unfolding status
status-wrote H t k o v = refl

pub status-noted : (H : History) (v : ℕ) → status (noted ∷ H) v ≡ status H v
unfolding status
status-noted H v = refl

pub status-committed : (H : History) (t : ℕ) → status (committed t ∷ H) t ≡ done
unfolding status
status-committed H t = if_pos (ℕ_discrete t t) refl done (status H t)

pub status_committed_other : (H : History) {t v : ℕ} → t ≢ v → status (committed t ∷ H) v ≡ status H v
unfolding status
status_committed_other H {t} {v} n = if_neg (ℕ_discrete t v) n done (status H v)

pub status-undone : (H : History) (t : ℕ) → status (undone t ∷ H) t ≡ rolled
unfolding status
status-undone H t = if_pos (ℕ_discrete t t) refl rolled (status H t)

pub status_undone_other : (H : History) {t v : ℕ} → t ≢ v → status (undone t ∷ H) v ≡ status H v
unfolding status
status_undone_other H {t} {v} n = if_neg (ℕ_discrete t v) n rolled (status H v)

pub write_began : (h : Sight) (H : History) (v : ℕ) (k : Key) → last_write (began h ∷ H) v k ≡ last_write H v k
unfolding last_write
write_began h H v k = refl

pub write_committed : (t : ℕ) (H : History) (v : ℕ) (k : Key) → last_write (committed t ∷ H) v k ≡ last_write H v k
unfolding last_write
write_committed t H v k = refl

pub write_undone : (t : ℕ) (H : History) (v : ℕ) (k : Key) → last_write (undone t ∷ H) v k ≡ last_write H v k
unfolding last_write
write_undone t H v k = refl

pub write_noted : (H : History) (v : ℕ) (k : Key) → last_write (noted ∷ H) v k ≡ last_write H v k
unfolding last_write
write_noted H v k = refl

pub write_same : (H : History) (t : ℕ) (k : Key) (o : Option Bytes) → last_write (wrote t k o ∷ H) t k ≡ Some o
unfolding last_write
write_same H t k o = if_pos (ℕ_discrete t t) refl _ _ ∙ if_pos (key≟ k k) refl (Some o) (last_write H t k)

pub write_other_txn : (H : History) {t v : ℕ} (j : Key) (o : Option Bytes) (k : Key) → t ≢ v → last_write (wrote t j o ∷ H) v k ≡ last_write H v k
unfolding last_write
write_other_txn H {t} {v} j o k n = if_neg (ℕ_discrete t v) n _ (last_write H v k)

pub write_other_key : (H : History) (t : ℕ) {j k : Key} (o : Option Bytes) (v : ℕ) → j ≢ k → last_write (wrote t j o ∷ H) v k ≡ last_write H v k
unfolding last_write
write_other_key H t {j} {k} o v n = go (ℕ_discrete t v)
  where
    inner : ite (key≟ j k) (Some o) (last_write H v k) ≡ last_write H v k
    inner = if_neg (key≟ j k) n (Some o) (last_write H v k)

    go : (d : Dec (t ≡ v)) → ite d (ite (key≟ j k) (Some o) (last_write H v k)) (last_write H v k) ≡ last_write H v k
    go (yes p) = inner
    go (no p) = refl

pub past-began : (h : Sight) (H : History) → past (began h ∷ H) h.ver ≡ H
unfolding past
past-began h H = if_pos (ℕ_discrete h.ver h.ver) refl H (past H h.ver)

pub past_began_other : (h : Sight) (H : History) {v : ℕ} → h.ver ≢ v → past (began h ∷ H) v ≡ past H v
unfolding past
past_began_other h H {v} n = if_neg (ℕ_discrete h.ver v) n H (past H v)

pub past-wrote : (H : History) (t : ℕ) (k : Key) (o : Option Bytes) (v : ℕ) → past (wrote t k o ∷ H) v ≡ past H v
unfolding past
past-wrote H t k o v = refl

pub past-committed : (H : History) (t v : ℕ) → past (committed t ∷ H) v ≡ past H v
unfolding past
past-committed H t v = refl

pub past-undone : (H : History) (t v : ℕ) → past (undone t ∷ H) v ≡ past H v
unfolding past
past-undone H t v = refl

pub past-noted : (H : History) (v : ℕ) → past (noted ∷ H) v ≡ past H v
unfolding past
past-noted H v = refl
