-- The records of the store, typed, each with its key and its payload in one, and the map that holds them in the order of the keys.
-- Assumes nothing.
use Prim.Native.Nat.{ℕ, ◌<◌, Ordering}
use Rattle.std.specs.Prelude.{◌≡◌, Bool, true, false, ◌≢◌, List, [], ◌∷◌, Option, None, Some}
use Rattle.std.proofs.Math.Logic.{ite}
use Rattle.std.proofs.Math.Decide.{ℕ_discrete}
use Rattle.keycode.specs.key.Keys.{Fields, Fields-discrete, next_version, txn_active, txn_active_snapshot, txn_write, version, unversioned}
use Rattle.isolation.specs.history.History.{Key, Bytes, key≟}

pub fields≟ : Discrete Fields
fields≟ = Fields-discrete ℕ_discrete key≟

-- a record: its key and its payload in one, so that no payload is of the wrong kind
pub data Rec : Type 0 where
  next_rec : ℕ → Rec
  active_rec : ℕ → Rec
  snap_rec : ℕ → List ℕ → Rec
  wrote_rec : ℕ → Key → Rec
  ver_rec : Key → ℕ → Option Bytes → Rec
  plain_rec : Key → Bytes → Rec

abbrev pub key_of : Rec → Fields
key_of (next_rec n) = next_version
key_of (active_rec v) = txn_active v
key_of (snap_rec v s) = txn_active_snapshot v
key_of (wrote_rec v k) = txn_write v k
key_of (ver_rec k v o) = version k v
key_of (plain_rec k b) = unversioned k

abbrev pub Map : Type 0
Map = List Rec

unfoldable pub look : Map → Fields → Option Rec
look [] K = None
look (r ∷ m) K = ite (fields≟ (key_of r) K) (Some r) (look m K)

-- the map without the records whose keys pass the test
unfoldable pub without : (Fields → Bool) → Map → Map
without p [] = []
without p (r ∷ m) = elim (p (key_of r)) [ true ↦ without p m | false ↦ r ∷ without p m ]

abbrev pub is_yes {ℓ} : {A : Type ℓ} → Dec A → Bool
is_yes (yes a) = true
is_yes (no n) = false

-- the listed keys deleted, one after the other
unfoldable pub del_all : List Fields → Map → Map
del_all [] m = m
del_all (K ∷ Ks) m = del_all Ks (without (λ J. is_yes (fields≟ J K)) m)

-- one record put in its place, by the order of the keys
abbrev pub place : Ordering → Rec → Rec → Map → Map → Map
place Ordering.lt r e m rest = r ∷ (e ∷ m)
place Ordering.eq r e m rest = r ∷ m
place Ordering.gt r e m rest = e ∷ rest

unfoldable pub put : (Fields → Fields → Ordering) → Rec → Map → Map
put cmp r [] = r ∷ []
put cmp r (e ∷ m) = place (cmp (key_of r) (key_of e)) r e m (put cmp r m)

-- every later key is above the first
pub data Above (cmp : Fields → Fields → Ordering) (K : Fields) : Map → Type 0 where
  above_nil : Above cmp K []
  above_cons : {r : Rec} {m : Map} → cmp K (key_of r) ≡ Ordering.lt → Above cmp K m → Above cmp K (r ∷ m)

pub data Sorted (cmp : Fields → Fields → Ordering) : Map → Type 0 where
  sorted_nil : Sorted cmp []
  sorted_cons : {r : Rec} {m : Map} → Above cmp (key_of r) m → Sorted cmp m → Sorted cmp (r ∷ m)

-- k is before j in the order of the user keys
unfoldable pub Before : (Fields → Fields → Ordering) → Key → Key → Type 0
Before cmp k j = (x y : ℕ) → cmp (version k x) (version j y) ≡ Ordering.lt

-- what the order of the encoded keys promises
pub record Order (cmp : Fields → Fields → Ordering) : Type 0 where
  pub same : (K J : Fields) → cmp K J ≡ Ordering.eq → K ≡ J
  pub itself : (K : Fields) → cmp K K ≡ Ordering.eq
  pub flip : (K J : Fields) → cmp K J ≡ Ordering.gt → cmp J K ≡ Ordering.lt
  pub trans : (K J L : Fields) → cmp K J ≡ Ordering.lt → cmp J L ≡ Ordering.lt → cmp K L ≡ Ordering.lt
  pub by_version : (k : Key) (x y : ℕ) → cmp (version k x) (version k y) ≡ Ordering.lt → x < y
  pub by_active : (x y : ℕ) → cmp (txn_active x) (txn_active y) ≡ Ordering.lt → x < y
  pub by_key : (k j : Key) (x y : ℕ) → k ≢ j → cmp (version k x) (version j y) ≡ Ordering.lt → Before cmp k j
