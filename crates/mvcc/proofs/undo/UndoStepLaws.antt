-- Rows' writes undone, by what the code finds, for any table: the keys tested, one write, and the loop. Assumes nothing.
use Prim.Native.Nat.{ℕ, zero, suc, ◌+◌, ◌-◌, ◌≤◌, ◌<◌}
use mathlib.Core.Path.{◌≡◌, refl, sym, ap, ◌∙◌, subst}
use mathlib.Core.Bool.{Bool, true, false}
use Rattle.std.specs.Prelude.{Option, None, Some}
use mathlib.Core.List.{List}
use native.Mathlib.Decide.{dec_lt}
use native.Mathlib.Numerals.{add-one}
use native.Mathlib.Omega.{arith}
use lib.Dec.{leb, ltb}
use lib.ListN.{length, take, get_or}
use borrow.Author.Tests.{leb-true, leb-false, lt-ltb, le-ltb, ltb-true}
use Rattle.keycode.specs.Tests.{pick}
use Rattle.keycode.specs.key.Keys.{encode, version}
use Rattle.keycode.specs.declared.code.Code.{Code}
use Rattle.keycode.proofs.Basics.{nope}
use Rattle.bitcask.specs.change.Append.{State}
use Rattle.bitcask.specs.declared.engine.mark.Mark.{Mark}
use Rattle.bitcask.specs.declared.engine.spot.Spot.{Spot}
use Rattle.bitcask.specs.engine.Rows.{Row, blank, rows, pairs}
use Rattle.bitcask.specs.engine.Spots.{rank, row_at}
use Rattle.bitcask.specs.engine.Marks.{Held}
use Rattle.bitcask.specs.engine.Ranges.{rows_from, between}
use Rattle.bitcask.specs.engine.Endings.{ended_span}
use Rattle.bitcask.proofs.engine.RowLaws.{rows-count}
use Rattle.bitcask.proofs.engine.SpanLaws.{from_next, from_end}
use Rattle.bitcask.proofs.engine.LeftLaws.{Keeps, keeps-none, keeps-more, keeps_held, ended-keeps}
use Rattle.mvcc.specs.undo.Plans.{user_in, is_user, all_users}
use Rattle.mvcc.specs.undo.Undo.{Names, rows_at, end_where, undo_one, undo_row, undo_many}
use Rattle.mvcc.proofs.undo.UndoKeyLaws.{user_some}
use Rattle.mvcc.specs.end.Ways.{store_of, del_where}
use Rattle.mvcc.proofs.end.CloseLaws.{del_where_keeps}

-- ---- the keys of a span

-- of the rows from p on, up to q, those from a place on are still to be tested
pub record Testing (rs : List Row) (p q at : Spot) : Type 0 where
  pub within : rank q rs ≤ length rs
  pub rest : all_users (pairs (rows_from (rank p rs) (rank q rs) rs)) ≡ all_users (pairs (rows_from (rank at rs) (rank q rs) rs))

pub test_start : (rs : List Row) (p q : Spot) → rank q rs ≤ length rs → Testing rs p q p
test_start rs p q h = record { within = h; rest = refl }

module _ {rs : List Row} {p q at : Spot} (w : Testing rs p q at) {met : Bool} (em : met ≡ leb (rank q rs) (rank at rs)) where
  pub test_end : met ≡ true → true ≡ all_users (pairs (between p q rs))
  unfolding between all_users pairs
  test_end e = sym (w.rest ∙ ap (λ (x : List Row). all_users (pairs x)) (from_end rs (rank at rs) (rank q rs) (leb-true (rank q rs) (rank at rs) (sym em ∙ e)) w.within))

  module _ (e : met ≡ false) where
    ahead : rank at rs < rank q rs
    ahead = leb-false (rank q rs) (rank at rs) (sym em ∙ e)

    pub test_stands : rank at rs < length rs
    test_stands = omega (arith, ahead, w.within)

    module _ {key : List ℕ} {b : Bool} (ek : key ≡ (row_at at rs).key) (eb : b ≡ is_user (user_in key)) where
      tested : all_users (pairs (rows_from (rank p rs) (rank q rs) rs)) ≡ pick b (all_users (pairs (rows_from (rank at rs + 1) (rank q rs) rs))) false
      unfolding all_users pairs row_at
      tested =
          let z : is_user (user_in (get_or rs (rank at rs) blank).key) ≡ b = sym (eb ∙ ap (λ (k : List ℕ). is_user (user_in k)) ek) in
          w.rest ∙ ap (λ (x : List Row). all_users (pairs x)) (from_next rs (rank at rs) (rank q rs) ahead w.within)
          ∙ ap (λ (y : Bool). pick y (all_users (pairs (rows_from (suc (rank at rs)) (rank q rs) rs))) false) z
          ∙ ap (λ (j : ℕ). pick b (all_users (pairs (rows_from j (rank q rs) rs))) false) (sym (add-one (rank at rs)))

      pub test_bad : b ≡ false → false ≡ all_users (pairs (between p q rs))
      unfolding between
      test_bad f = sym (tested ∙ rw f)

      module _ (f : b ≡ true) (n : Spot) (en : rank n rs ≡ rank at rs + 1) where
        pub test_next : Testing rs p q n
        test_next = record { within = w.within; rest = tested ∙ rw f (ap (λ (j : ℕ). all_users (pairs (rows_from j (rank q rs) rs))) (sym en)) }

        pub test_less : rank q rs - rank n rs < rank q rs - rank at rs
        test_less = omega (arith, ahead, en)

-- ---- a row ended

module _ (log t : List ℕ) (m : Mark) (p : Spot) {b : Bool} (eb : b ≡ ltb (rank p (rows log t m)) (length (rows log t m))) where
  pub row_stands : b ≡ true → rank p (rows log t m) < length (rows log t m)
  row_stands e = ltb-true (rank p (rows log t m)) (length (rows log t m)) (sym eb ∙ e)

  pub row_none : b ≡ false → store_of log t m ≡ end_where (store_of log t m) (rank p (rows log t m))
  unfolding end_where rows_at
  row_none e = rw (← eb, e)

  pub row_gone : b ≡ true → {r : State} → r ≡ ended_span (store_of log t m) (rank p (rows log t m)) (rank p (rows log t m) + 1) → r ≡ end_where (store_of log t m) (rank p (rows log t m))
  unfolding end_where rows_at
  row_gone e q = rw (← eb, e) q

end_keeps : {log t : List ℕ} {m : Mark} (i : ℕ) → Held log t m → Keeps (store_of log t m) (end_where (store_of log t m) i)
unfolding end_where rows_at
end_keeps {log} {t} {m} i h = go (dec_lt i (length (rows log t m)))
  where
    go : Dec (i < length (rows log t m)) → Keeps (store_of log t m) (pick (ltb i (length (rows log t m))) (ended_span (store_of log t m) i (i + 1)) (store_of log t m))
    go (yes k) = rw (lt-ltb i (length (rows log t m)) k) (ended-keeps (store_of log t m) h.within h.room i (i + 1) (omega (arith, rows-count log t m)))
    go (no k) = rw (le-ltb i (length (rows log t m)) (omega arith)) (keeps-none (store_of log t m) h.within h.room)

-- ---- one write

none-user : (o : Option (List ℕ)) → is_user o ≡ false → o ≡ None
none-user None e = refl
none-user (Some u) e = nope (cc)

-- the store behind a key that was deleted
pub after-key : {log t log' t' : List ℕ} {m mid : Mark} (key : List ℕ) → Held log t m → store_of log' t' mid ≡ del_where (store_of log t m) key → Held log' t' mid
after-key {log} {t} {m = m} key h e = keeps_held h (subst (Keeps (store_of log t m)) (sym e) (del_where_keeps key h))

-- a spot is the same place in another store
rank_same : (p : Spot) (rs qs : List Row) → rank p rs ≡ rank p qs
unfolding rank
rank_same p rs qs = refl

module _ (log t : List ℕ) (m : Mark) (p : Spot) (v : ℕ) {b : Bool} (eb : b ≡ ltb (rank p (rows log t m)) (length (rows log t m))) where
  abbrev s : State
  s = store_of log t m

  pub undo_none : b ≡ false → store_of log t m ≡ undo_row (store_of log t m) (rank p (rows log t m)) v
  unfolding undo_row rows_at
  undo_none e = rw (← eb, e)

  module _ (e : b ≡ true) {key : List ℕ} {w : Bool} (ek : key ≡ (row_at p (rows log t m)).key) (ew : w ≡ is_user (user_in key)) where
    here : undo_row s (rank p (rows log t m)) v ≡ undo_one s (rank p (rows log t m)) v (user_in key)
    unfolding undo_row rows_at row_at
    here = rw (← eb, e) (ap (λ (k : List ℕ). undo_one s (rank p (rows log t m)) v (user_in k)) (sym ek))

    pub undo_other : w ≡ false → store_of log t m ≡ undo_row (store_of log t m) (rank p (rows log t m)) v
    undo_other f = sym (here ∙ ap (undo_one s (rank p (rows log t m)) v) (none-user (user_in key) (sym ew ∙ f)))

    pub undo_row_lem : w ≡ true → (r : Code) → Names key v r → {log' t' : List ℕ} {mid : Mark} → store_of log' t' mid ≡ del_where (store_of log t m) (take r.len r.bytes)
        → {last : State} → last ≡ end_where (store_of log' t' mid) (rank p (rows log' t' mid)) → last ≡ undo_row (store_of log t m) (rank p (rows log t m)) v
    undo_row_lem f r n {log'} {t'} {mid} em el =
        let q = user_some (user_in key) (sym ew ∙ f) in
        el ∙ ap (end_where (store_of log' t' mid)) (rank_same p (rows log' t' mid) (rows log t m))
        ∙ ap (λ (y : State). end_where y (rank p (rows log t m))) (em ∙ ap (del_where s) (n.names q.0 q.1).says)
        ∙ sym (here ∙ ap (undo_one s (rank p (rows log t m)) v) q.1)

-- ---- what each step keeps

-- a store within its sizes is one that was entered
abbrev pub mark_at : State → Mark
mark_at s = record { used = record { len = s.used }; count = s.count }

abbrev pub Sized : State → Type 0
Sized s = Held s.log s.table (mark_at s)

sized_on : {s r : State} → Sized s → Keeps s r → Sized r
sized_on h k = keeps_held h k

one_keeps : (s : State) (i v : ℕ) (o : Option (List ℕ)) → Sized s → Keeps s (undo_one s i v o)
one_keeps s i v None h = keeps-none s h.within h.room
one_keeps s i v (Some u) h = let k = del_where_keeps (encode (version u v)) h in keeps-more k (end_keeps i (sized_on h k))

row_keeps : (s : State) (i v : ℕ) → Sized s → Keeps s (undo_row s i v)
unfolding undo_row
row_keeps s i v h = go (ltb i (length (rows_at s))) (one_keeps s i v (user_in (get_or (rows_at s) i blank).key) h)
  where
    go : (b : Bool) → Keeps s (undo_one s i v (user_in (get_or (rows_at s) i blank).key)) → Keeps s (pick b (undo_one s i v (user_in (get_or (rows_at s) i blank).key)) s)
    go true k = k
    go false k = keeps-none s h.within h.room

pub many-keeps : (n : ℕ) (s : State) (i v : ℕ) → Sized s → Keeps s (undo_many n s i v)
unfolding undo_many
many-keeps zero s i v h = keeps-none s h.within h.room
many-keeps (suc n) s i v h = let k = row_keeps s i v h in keeps-more k (many-keeps n (undo_row s i v) i v (sized_on h k))

pub after-many : {log t log' t' : List ℕ} {m mid : Mark} (n i v : ℕ) → Held log t m → store_of log' t' mid ≡ undo_many n (store_of log t m) i v → Held log' t' mid
after-many {log} {t} {m = m} n i v h e = keeps_held h (subst (Keeps (store_of log t m)) (sym e) (many-keeps n (store_of log t m) i v h))

-- ---- the loop

-- so many rows are left in the store s
pub record Undoing (n : ℕ) (s₀ : State) (i v left : ℕ) (s : State) : Type 0 where
  pub keeps : Keeps s₀ s
  pub sized : Sized s
  pub rest : undo_many n s₀ i v ≡ undo_many left s i v

pub undo_start : (n : ℕ) {log t : List ℕ} {m : Mark} (i v : ℕ) → Held log t m → Undoing n (store_of log t m) i v n (store_of log t m)
undo_start n {log} {t} {m} i v h = record { keeps = keeps-none (store_of log t m) h.within h.room; sized = h; rest = refl }

module _ {n : ℕ} {s₀ : State} {i v left : ℕ} {s : State} (w : Undoing n s₀ i v left s) where
  pub undo_end : left ≤ 0 → s ≡ undo_many n s₀ i v
  unfolding undo_many
  undo_end h = let e : left ≡ 0 = omega arith in sym (w.rest ∙ ap (λ (x : ℕ). undo_many x s i v) e)

  undo_next : 0 < left → {s' : State} → s' ≡ undo_row s i v → Undoing n s₀ i v (left - 1) s'
  unfolding undo_many
  undo_next h {s'} e =
      let q : left ≡ suc (left - 1) = omega arith in
      let k : Keeps s s' = subst (Keeps s) (sym e) (row_keeps s i v w.sized) in
      record { keeps = keeps-more w.keeps k; sized = sized_on w.sized k; rest = w.rest ∙ ap (λ (x : ℕ). undo_many x s i v) q ∙ ap (λ (y : State). undo_many (left - 1) y i v) (sym e) }

-- the turn at a place, which is the same in every store
pub undo_turn : {n : ℕ} {log₀ t₀ : List ℕ} {m₀ : Mark} (p : Spot) {v left : ℕ} {log t : List ℕ} {m : Mark} → Undoing n (store_of log₀ t₀ m₀) (rank p (rows log₀ t₀ m₀)) v left (store_of log t m)
    → 0 < left → {s' : State} → s' ≡ undo_row (store_of log t m) (rank p (rows log t m)) v → Undoing n (store_of log₀ t₀ m₀) (rank p (rows log₀ t₀ m₀)) v (left - 1) s'
undo_turn {log₀ = log₀} {t₀ = t₀} {m₀ = m₀} p {v = v} {log = log} {t = t} {m = m} w h e =
    undo_next w h (e ∙ ap (λ (i : ℕ). undo_row (store_of log t m) i v) (rank_same p (rows log t m) (rows log₀ t₀ m₀)))
