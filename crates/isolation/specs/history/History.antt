-- What the transactions mean, from the calls made and the numbers answered alone: no word here of records, keys of the store or payloads.
-- A history is the list of what happened, the latest first. Document 01's demand of snapshot isolation. Assumes nothing.
use Rattle.std.specs.Prelude.{ℕ, suc, ◌≤◌, ◌≡◌, refl, Bool, true, false, not, ◌&&◌, ◌≢◌, ◌⊎◌, List, [], ◌∷◌, leb, ltb, Option, None, Some}
use Rattle.std.proofs.Math.Logic.{ite}
use Rattle.std.proofs.Math.Decide.{ℕ_discrete}
use Rattle.std.proofs.Common.{arith}

-- user keys and user values
abbrev pub Key : Type 0
Key = List ℕ

abbrev pub Bytes : Type 0
Bytes = List ℕ

-- equality of byte lists, by clauses so that it computes
heads≟ : (x y : ℕ) (k j : Key) → Dec (x ≡ y) → Dec (k ≡ j) → Dec (x ∷ k ≡ y ∷ j)
heads≟ x y k j (yes p) (yes q) = yes (cc)
heads≟ x y k j (yes p) (no n) = no (λ e. n (cc))
heads≟ x y k j (no n) d = no (λ e. n (cc))

unfoldable pub key≟ : Discrete Key
unfolding heads≟ ℕ_discrete
key≟ [] [] = yes refl
key≟ [] (y ∷ j) = no (λ e. let z : ◌≡◌ {A = ℕ} 0 1 = cc in omega arith)
key≟ (x ∷ k) [] = no (λ e. let z : ◌≡◌ {A = ℕ} 0 1 = cc in omega arith)
key≟ (x ∷ k) (y ∷ j) = heads≟ x y k j (ℕ_discrete x y) (key≟ k j)

-- what a handle sees by: its version, whether it is read-only, and the versions that were open when it was given
pub record Sight : Type 0 where
  pub ver : ℕ
  pub ro : Bool
  pub set : List ℕ

-- a call that was answered 0: begin; an accepted write (`none` deletes); commit and rollback of a read-write handle; the rest
pub data Event : Type 0 where
  began : Sight → Event
  wrote : ℕ → Key → Option Bytes → Event
  committed : ℕ → Event
  undone : ℕ → Event
  noted : Event

abbrev pub History : Type 0
History = List Event

pub data Status : Type 0 where
  unborn opened done rolled : Status
  deriving Discrete as Status-discrete

-- how the transaction of version v stands after the history
unfoldable pub status : History → ℕ → Status
status [] v = unborn
status (began h ∷ H) v = ite (ℕ_discrete h.ver v) opened (status H v)
status (wrote t k o ∷ H) v = status H v
status (committed t ∷ H) v = ite (ℕ_discrete t v) done (status H v)
status (undone t ∷ H) v = ite (ℕ_discrete t v) rolled (status H v)
status (noted ∷ H) v = status H v

-- the last accepted write of key k by transaction v
unfoldable pub last_write : History → ℕ → Key → Option (Option Bytes)
last_write [] v k = None
last_write (began h ∷ H) v k = last_write H v k
last_write (wrote t j o ∷ H) v k = ite (ℕ_discrete t v) (ite (key≟ j k) (Some o) (last_write H v k)) (last_write H v k)
last_write (committed t ∷ H) v k = last_write H v k
last_write (undone t ∷ H) v k = last_write H v k
last_write (noted ∷ H) v k = last_write H v k

abbrev pub over : Option (Option Bytes) → Option Bytes → Option Bytes
over None b = b
over (Some o) b = o

-- what the committed transactions leave at key k, laid down whole in commit order
unfoldable pub laid : History → Key → Option Bytes
laid [] k = None
laid (began h ∷ H) k = laid H k
laid (wrote t j o ∷ H) k = laid H k
laid (committed t ∷ H) k = over (last_write H t k) (laid H k)
laid (undone t ∷ H) k = laid H k
laid (noted ∷ H) k = laid H k

-- the history before transaction v began
unfoldable pub past : History → ℕ → History
past [] v = []
past (began h ∷ H) v = ite (ℕ_discrete h.ver v) H (past H v)
past (wrote t k o ∷ H) v = past H v
past (committed t ∷ H) v = past H v
past (undone t ∷ H) v = past H v
past (noted ∷ H) v = past H v

-- x is open, or committed after transaction t began
abbrev pub Late : History → ℕ → ℕ → Type 0
Late H t x = (status H x ≡ opened) ⊎ ((status H x ≡ done) × (status (past H t) x ≢ done))

-- another transaction has an accepted write of k and is open, or committed after t began
pub record Clash (H : History) (t : ℕ) (k : Key) : Type 0 where
  pub other : ℕ
  pub differs : other ≢ t
  pub writes : last_write H other k ≢ None
  pub late : Late H t other

-- membership in a handle's set
unfoldable pub is_in : ℕ → List ℕ → Bool
is_in v [] = false
is_in v (x ∷ xs) = ite (ℕ_discrete x v) true (is_in v xs)

abbrev pub is_open : Status → Bool
is_open unborn = false
is_open opened = true
is_open done = false
is_open rolled = false

-- where a write's search starts: the lowest of the set, or the own version plus 1
abbrev pub lowest : List ℕ → ℕ → ℕ
lowest [] t = suc t
lowest (x ∷ xs) t = x

-- the handle's set starts with its lowest
abbrev pub Low : Sight → Type 0
Low h = (x : ℕ) → is_in x h.set ≡ true → lowest h.set h.ver ≤ x

abbrev pub keep : {A : Type 0} → Bool → Option A → Option A
keep true x = x
keep false x = None

-- a reader's test: below its version, and not open when it began; a read-write handle sees its own version too
abbrev pub below : ℕ → List ℕ → ℕ → Bool
below v S x = not (is_in x S) && ltb x v

abbrev pub up_to : ℕ → List ℕ → ℕ → Bool
up_to v S x = not (is_in x S) && leb x v
