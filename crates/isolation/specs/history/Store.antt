-- What the transactions read of the store, record by record, and what each accepted call does to it. Document 01, 'Transactions'. Assumes
-- nothing.
use Rattle.std.specs.Prelude.{ℕ, suc, ◌≡◌, Bool, true, false, not, ◌≢◌, List, [], ◌∷◌, Option, None, Some}
use Rattle.isolation.specs.history.History.{Key, Bytes, Sight, is_in, keep, Low}

-- the next version; which versions are open; the set stored at a version's begin; which keys a version is recorded to have written; and what
-- a version wrote of a key
pub record Db : Type 0 where
  pub next : ℕ
  pub act : ℕ → Bool
  pub snap : ℕ → List ℕ
  pub txw : ℕ → Key → Bool
  pub vers : Key → ℕ → Option (Option Bytes)

-- a begin stores its set where it has one
abbrev pub kept : List ℕ → List ℕ → List ℕ
kept [] s = s
kept (x ∷ xs) s = x ∷ xs

abbrev pub is_some : {A : Type 0} → Option A → Bool
is_some None = false
is_some (Some a) = true

-- nothing is stored
pub record Empty (d : Db) : Type 0 where
  pub next : d.next ≡ 1
  pub act : (x : ℕ) → d.act x ≡ false
  pub snap : (x : ℕ) → d.snap x ≡ []
  pub txw : (x : ℕ) (k : Key) → d.txw x k ≡ false
  pub vers : (k : Key) (x : ℕ) → d.vers k x ≡ None

-- begin answered 0 with the handle h
pub record Begins (d : Db) (h : Sight) (d' : Db) : Type 0 where
  pub number : h.ver ≡ d.next
  pub set : (x : ℕ) → is_in x h.set ≡ d.act x
  pub low : Low h
  pub next : d'.next ≡ suc d.next
  pub act_own : d'.act h.ver ≡ true
  pub act-other : (x : ℕ) → h.ver ≢ x → d'.act x ≡ d.act x
  pub snap_own : d'.snap h.ver ≡ kept h.set (d.snap h.ver)
  pub snap-other : (x : ℕ) → h.ver ≢ x → d'.snap x ≡ d.snap x
  pub txw : (x : ℕ) (k : Key) → d'.txw x k ≡ d.txw x k
  pub vers : (k : Key) (x : ℕ) → d'.vers k x ≡ d.vers k x

-- a write answered 0
pub record Writes (d : Db) (t : ℕ) (k : Key) (o : Option Bytes) (d' : Db) : Type 0 where
  pub next : d'.next ≡ d.next
  pub act : (x : ℕ) → d'.act x ≡ d.act x
  pub snap : (x : ℕ) → d'.snap x ≡ d.snap x
  pub txw_own : d'.txw t k ≡ true
  pub txw-other : (x : ℕ) (j : Key) → ¬ ((t ≡ x) × (k ≡ j)) → d'.txw x j ≡ d.txw x j
  pub vers_own : d'.vers k t ≡ Some o
  pub vers-other : (j : Key) (x : ℕ) → ¬ ((t ≡ x) × (k ≡ j)) → d'.vers j x ≡ d.vers j x

-- what a commit and a rollback answered 0 have in common
pub record Ends (d : Db) (t : ℕ) (d' : Db) : Type 0 where
  pub next : d'.next ≡ d.next
  pub snap : (x : ℕ) → d'.snap x ≡ d.snap x
  pub act_own : d'.act t ≡ false
  pub act-other : (x : ℕ) → t ≢ x → d'.act x ≡ d.act x
  pub txw_own : (k : Key) → d'.txw t k ≡ false
  pub txw-other : (x : ℕ) (k : Key) → t ≢ x → d'.txw x k ≡ d.txw x k

pub record Commits (d : Db) (t : ℕ) (d' : Db) : Type 0 where
  pub ends : Ends d t d'
  pub vers : (k : Key) (x : ℕ) → d'.vers k x ≡ d.vers k x

pub record Undoes (d : Db) (t : ℕ) (d' : Db) : Type 0 where
  pub ends : Ends d t d'
  pub vers_own : (k : Key) → d'.vers k t ≡ keep (not (d.txw t k)) (d.vers k t)
  pub vers-other : (k : Key) (x : ℕ) → t ≢ x → d'.vers k x ≡ d.vers k x

-- a call that the transactions do not see
pub record Unseen (d d' : Db) : Type 0 where
  pub next : d'.next ≡ d.next
  pub act : (x : ℕ) → d'.act x ≡ d.act x
  pub snap : (x : ℕ) → d'.snap x ≡ d.snap x
  pub txw : (x : ℕ) (k : Key) → d'.txw x k ≡ d.txw x k
  pub vers : (k : Key) (x : ℕ) → d'.vers k x ≡ d.vers k x
