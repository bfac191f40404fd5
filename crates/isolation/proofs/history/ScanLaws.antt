-- What the scans over a key's versions find: the last that passes a test is the highest. Assumes nothing.
use Prim.Native.Nat.{ℕ, ◌<◌, Ordering}
use native.Mathlib.Omega.{arith}
use mathlib.Core.Path.{◌≡◌, refl, sym, ◌∙◌}
use mathlib.Core.Bool.{Bool, true, false, cond}
use mathlib.Core.Logic.{◌≢◌, ite}
use Rattle.std.specs.Prelude.{Option, None, Some}
use mathlib.Core.List.{[], ◌∷◌}
use Rattle.keycode.specs.key.Keys.{Fields, version}
use Rattle.isolation.specs.history.History.{Key, Bytes, key≟}
use Rattle.isolation.specs.history.Records.{fields≟, Rec, next_rec, active_rec, snap_rec, wrote_rec, ver_rec, plain_rec, key_of, Map, look, Above, above_nil, above_cons, Sorted, sorted_nil, sorted_cons, Order}
use Rattle.isolation.specs.history.History.{keep}
use Rattle.isolation.proofs.history.FactLaws.{nope}
use borrow.Author.Tests.{not-true}
use Rattle.isolation.specs.history.History.{Sight}
use Rattle.isolation.specs.history.Calls.{item_of, view}
use Rattle.isolation.proofs.history.MapLaws.{look-here, look-past}
use Rattle.isolation.specs.history.Calls.{versions_of, last_of, flat, hides}
use Rattle.isolation.specs.history.History.{up_to}
use Rattle.isolation.proofs.history.Standing as Hs
use Rattle.isolation.proofs.history.Standing.{Peak, peak_at, Top, nowhere, top_at, Hidden}

pub data LastIs (p : ℕ → Bool) (k : Key) (m : Map) (r : Option Rec) : Type 0 where
  last_none : ((x : ℕ) → p x ≡ true → look m (version k x) ≡ None) → r ≡ None → LastIs p k m r
  last-at : (x : ℕ) (o : Option Bytes) → r ≡ Some (ver_rec k x o) → p x ≡ true → look m (version k x) ≡ Some (ver_rec k x o) → ((y : ℕ) → x < y → p y ≡ true → look m (version k y) ≡ None) → LastIs p k m r

look_nil : (K : Fields) → look [] K ≡ None
unfolding look
look_nil K = refl

-- a record of another key in front changes nothing
skip : (p : ℕ → Bool) (k : Key) (e : Rec) (m : Map) (r : Option Rec) → ((x : ℕ) → p x ≡ true → key_of e ≢ version k x) → LastIs p k m r → LastIs p k (e ∷ m) r
skip p k e m r n (last_none a i) = last_none (λ x t. look-past e m (n x t) ∙ a x t) i
skip p k e m r n (last-at x o i t l a) = last-at x o i t (look-past e m (n x t) ∙ l) (λ y u v. look-past e m (n y v) ∙ a y u v)

module _ {cmp : Fields → Fields → Ordering} (L : Order cmp) where
  pub above_look : (K : Fields) {m : Map} → Above cmp K m → (J : Fields) (r : Rec) → look m J ≡ Some r → cmp K J ≡ Ordering.lt
  above_look K above_nil J r e = nope (cc (look_nil J))
  above_look K (above_cons {r = s} {m = m} q a) J r e = go (fields≟ (key_of s) J) (above_look K a J r)
    where
      go : Dec (key_of s ≡ J) → (look m J ≡ Some r → cmp K J ≡ Ordering.lt) → cmp K J ≡ Ordering.lt
      go (yes p) rec = rw p at q
      go (no n) rec = rec (sym (look-past s m n) ∙ e)

  pub last-is : (p : ℕ → Bool) (k : Key) {m : Map} → Sorted cmp m → LastIs p k m (last_of (versions_of p k m))
  unfolding versions_of last_of
  last-is p k sorted_nil = last_none (λ x t. look_nil (version k x)) refl
  last-is p k (sorted_cons {r = next_rec n} {m = m} a s) = skip p k (next_rec n) m _ (λ x t e. nope (cc)) (last-is p k s)
  last-is p k (sorted_cons {r = active_rec v} {m = m} a s) = skip p k (active_rec v) m _ (λ x t e. nope (cc)) (last-is p k s)
  last-is p k (sorted_cons {r = snap_rec v z} {m = m} a s) = skip p k (snap_rec v z) m _ (λ x t e. nope (cc)) (last-is p k s)
  last-is p k (sorted_cons {r = wrote_rec v j} {m = m} a s) = skip p k (wrote_rec v j) m _ (λ x t e. nope (cc)) (last-is p k s)
  last-is p k (sorted_cons {r = ver_rec j v o} {m = m} a s) = go (key≟ j k) (p v) refl (last-is p k s)
    where
      less : j ≡ k → (x : ℕ) (u : Option Bytes) → look m (version k x) ≡ Some (ver_rec k x u) → v < x
      less q x u l = L.by_version k v x (rw q at (above_look (version j v) a (version k x) (ver_rec k x u) l))

      go : (d : Dec (j ≡ k)) (b : Bool) → p v ≡ b → LastIs p k m (last_of (versions_of p k m)) → LastIs p k (ver_rec j v o ∷ m) (last_of (ite d (cond b (ver_rec j v o ∷ versions_of p k m) (versions_of p k m)) (versions_of p k m)))
      go (no n) b e i = skip p k (ver_rec j v o) m _ (λ x t q. n (cc)) i
      go (yes q) false e i = skip p k (ver_rec j v o) m _ (λ x t z. nope (cc)) i
      go (yes q) true e (last_none f i) = last-at v o (rw (i, q)) e (rw (← q) (look-here (ver_rec j v o) m)) (λ y u w. look-past (ver_rec j v o) m (λ z. let n : v ≡ y = cc in omega arith) ∙ f y w)
      go (yes q) true e (last-at x u i t l f) = last-at x u (rw i) t (look-past (ver_rec j v o) m (λ z. let n : v ≡ x = cc in omega (arith, less q x u l)) ∙ l) (λ y w c. look-past (ver_rec j v o) m (λ z. let n : v ≡ y = cc in omega (arith, less q x u l)) ∙ f y w c)
  last-is p k (sorted_cons {r = plain_rec j b} {m = m} a s) = skip p k (plain_rec j b) m _ (λ x t e. nope (cc)) (last-is p k s)

-- what a scan for the last that passes finds is the top of the versions that pass
pub last_top : (p : ℕ → Bool) (k : Key) (m : Map) (r : Option Rec) → LastIs p k m r → Top (λ x. keep (p x) ((view m).vers k x)) (flat (item_of r))
last_top p k m r (last_none f i) = nowhere (λ x. go x (p x) refl) (rw i)
  where
    go : (x : ℕ) (b : Bool) → p x ≡ b → keep (p x) (item_of (look m (version k x))) ≡ None
    go x true e = rw (e, f x e)
    go x false e = rw e
last_top p k m r (last-at x o i t l f) = rw i (top_at x (rw (t, l)) (λ y u. go y u (p y) refl))
  where
    go : (y : ℕ) → x < y → (b : Bool) → p y ≡ b → keep (p y) (item_of (look m (version k y))) ≡ None
    go y u true e = rw (e, f y u e)
    go y u false e = rw e

abbrev pub number_of : Option Rec → Option ℕ
number_of None = None
number_of (Some (next_rec n)) = None
number_of (Some (active_rec v)) = None
number_of (Some (snap_rec v s)) = None
number_of (Some (wrote_rec v k)) = None
number_of (Some (ver_rec k v o)) = Some v
number_of (Some (plain_rec k b)) = None

pub last_peak : (p : ℕ → Bool) (k : Key) (m : Map) (r : Option Rec) → LastIs p k m r → Peak (λ x. keep (p x) ((view m).vers k x)) (number_of r)
last_peak p k m r (last_none f i) = Hs.flat (λ x. go x (p x) refl) (rw i)
  where
    go : (x : ℕ) (b : Bool) → p x ≡ b → keep (p x) (item_of (look m (version k x))) ≡ None
    go x true e = rw (e, f x e)
    go x false e = rw e
last_peak p k m r (last-at x o i t l f) = peak_at x (rw i) (λ z. nope (cc)) (λ y u. go y u (p y) refl)
  where
    go : (y : ℕ) → x < y → (b : Bool) → p y ≡ b → keep (p y) (item_of (look m (version k y))) ≡ None
    go y u true e = rw (e, f y u e)
    go y u false e = rw e

-- the conflict test says what Hidden says
pub hides-hidden : (h : Sight) (r : Option Rec) → (hides h r ≡ true → Hidden h.ver h.set (number_of r)) × (Hidden h.ver h.set (number_of r) → hides h r ≡ true)
hides-hidden h None = ((λ e. nope (cc)), (λ e. absurd e))
hides-hidden h (Some (next_rec n)) = ((λ e. nope (cc)), (λ e. absurd e))
hides-hidden h (Some (active_rec v)) = ((λ e. nope (cc)), (λ e. absurd e))
hides-hidden h (Some (snap_rec v s)) = ((λ e. nope (cc)), (λ e. absurd e))
hides-hidden h (Some (wrote_rec v k)) = ((λ e. nope (cc)), (λ e. absurd e))
hides-hidden h (Some (ver_rec k v o)) = (not-true (up_to h.ver h.set v), (λ e. rw e))
hides-hidden h (Some (plain_rec k b)) = ((λ e. nope (cc)), (λ e. absurd e))
