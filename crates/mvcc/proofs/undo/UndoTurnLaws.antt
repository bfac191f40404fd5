-- Where the table agrees with the log, one write undone is two tombstones appended: a Version key sorts behind every TxnWrite key, so that
-- deleting it leaves the records of the writes where they are. Assumes nothing.
use Prim.Native.Nat.{ℕ, ◌+◌, ◌≤◌, ◌<◌}
use mathlib.Core.Path.{◌≡◌, refl, sym, ap, ◌∙◌}
use mathlib.Core.List.{List, [], ◌∷◌, ◌++◌}
use native.Mathlib.Omega.{arith}
use lib.ListN.{length, get_or, length-append}
use borrow.Author.Tests.{lt-ltb}
use Rattle.std.specs.declared.cmp.Ordering.TheVariants.{Less}
use Rattle.keycode.specs.Order.{compare_bytes}
use Rattle.keycode.specs.key.Keys.{encode, txn_write, version}
use Rattle.keycode.proofs.OrderLaws.{compare_refl, compare_trans}
use Rattle.keycode.proofs.key.KeyOrder.{order_tags}
use Rattle.bitcask.specs.entry.Entry.{del}
use Rattle.bitcask.specs.keydir.Place.{All, all_none, all_more}
use Rattle.bitcask.specs.recovery.Map.{Pair, cut_in, after, Rising, rising-more}
use Rattle.bitcask.specs.recovery.Recover.{map_of}
use Rattle.bitcask.specs.change.Append.{State, appended, size_all}
use Rattle.bitcask.specs.declared.engine.mark.Mark.{Mark}
use Rattle.bitcask.specs.engine.Rows.{blank, rows, pairs}
use Rattle.bitcask.proofs.engine.RowLaws.{rows-map, rows-count}
use Rattle.bitcask.proofs.engine.PairLaws.{pair_of, pairs-length, pairs-at}
use Rattle.bitcask.proofs.engine.AgainLaws.{Right, del_right, del-map, row_ended}
use Rattle.mvcc.specs.request.Lists.{appended_all}
use Rattle.mvcc.proofs.request.ListLaws.{all_size}
use Rattle.mvcc.specs.undo.Plans.{user_in}
use Rattle.mvcc.specs.undo.Undo.{rows_at, end_where, undo_one, undo_row}
use Rattle.mvcc.proofs.end.CloseLaws.{del_done}
use Rattle.mvcc.proofs.undo.UndoKeyLaws.{Written}

-- ---- keys taken out of a map

abbrev pub Under : List ℕ → Pair → Type 0
Under k q = compare_bytes q.key k ≡ Less

-- every key of the first pairs is below every one of the second
abbrev pub Below : List Pair → List Pair → Type 0
Below pre xs = All (λ (p : Pair). All (λ (q : Pair). compare_bytes p.key q.key ≡ Less) xs) pre

cut_past : (k : List ℕ) {front : List Pair} (post : List Pair) → All (Under k) front → cut_in k (front ++ post) ≡ front ++ cut_in k post
unfolding cut_in
cut_past k post all_none = refl
cut_past k post (all_more {x = q} {xs = front} e a) = rw e (ap (λ (m : List Pair). q ∷ m) (cut_past k post a))

cut_here : (q : Pair) (m : List Pair) → cut_in q.key (q ∷ m) ≡ m
unfolding cut_in
cut_here q m = rw (compare_refl q.key)

-- below the first of them
below_head : (k : List ℕ) (q : Pair) (xs : List Pair) {pre : List Pair} → compare_bytes q.key k ≡ Less → Below pre (q ∷ xs) → All (Under k) pre
below_head k q xs e all_none = all_none
below_head k q xs e (all_more {x = p} (all_more h a) b) = all_more (compare_trans p.key q.key k h e) (below_head k q xs e b)

pub below-tail : (q : Pair) (xs : List Pair) {pre : List Pair} → Below pre (q ∷ xs) → Below pre xs
below-tail q xs all_none = all_none
below-tail q xs (all_more (all_more h a) b) = all_more a (below-tail q xs b)

below_own : (q : Pair) (xs : List Pair) {pre : List Pair} → Below pre (q ∷ xs) → All (Under q.key) pre
below_own q xs all_none = all_none
below_own q xs (all_more (all_more h a) b) = all_more h (below_own q xs b)

all-front : {P : Pair → Type 0} (xs post : List Pair) → All P (xs ++ post) → All P xs
all-front [] post a = all_none
all-front (x ∷ xs) post (all_more p a) = all_more p (all-front xs post a)

all_past : {P : Pair → Type 0} (pre xs : List Pair) → All P (pre ++ xs) → All P xs
all_past [] xs a = a
all_past (p ∷ pre) xs (all_more h a) = all_past pre xs a

-- the parts of a map are so
pub rising-below : (pre xs post : List Pair) → Rising (pre ++ (xs ++ post)) → Below pre xs
rising-below [] xs post r = all_none
rising-below (p ∷ pre) xs post (rising-more a r) = all_more (all-front xs post (all_past pre (xs ++ post) a)) (rising-below pre xs post r)

-- a Version key is behind every TxnWrite key
written_under : {b : List ℕ} → Written b → (u : List ℕ) (v : ℕ) → compare_bytes b (encode (version u v)) ≡ Less
written_under {b} w u v =
    ap (λ (k : List ℕ). compare_bytes k (encode (version u v))) (sym w.wrote.bytes) ∙ order_tags (txn_write w.wrote.writer w.user) (version u v) (omega arith)

all_under : {xs : List Pair} (u : List ℕ) (v : ℕ) → All (λ (q : Pair). Written q.key) xs → All (Under (encode (version u v))) xs
all_under u v all_none = all_none
all_under u v (all_more w a) = all_more (written_under w u v) (all_under u v a)

-- ---- the row of a number

at_here : (pre : List Pair) (q : Pair) (m : List Pair) (d : Pair) → get_or (pre ++ (q ∷ m)) (length pre) d ≡ q
at_here [] q m d = refl
at_here (p ∷ pre) q m d = at_here pre q m d

-- the map of a store that agrees has a pair behind some others: its row
module _ (s : State) (g : Right s) (pre : List Pair) (q : Pair) (m : List Pair) (e : map_of s.log s.used ≡ pre ++ (q ∷ m)) where
  rows_are : pairs (rows_at s) ≡ pre ++ (q ∷ m)
  unfolding rows_at
  rows_are = rows-map s.log s.table (record { used = record { len = s.used }; count = s.count }) (record { agrees = g.agrees; count = g.counted }) ∙ e

  row_here : length pre < length (rows_at s)
  row_here = omega (arith, pairs-length (rows_at s), ap length rows_are, length-append pre (q ∷ m))

  row_key : (get_or (rows_at s) (length pre) blank).key ≡ q.key
  row_key =
      ap (λ (p : Pair). p.key) (sym (pairs-at (rows_at s) (length pre)) ∙ ap (λ (ps : List Pair). get_or ps (length pre) (pair_of blank)) rows_are ∙ at_here pre q m (pair_of blank))

  row_out : s.used + (8 + length q.key) ≤ length s.log → end_where s (length pre) ≡ appended s (del q.key)
  unfolding end_where rows_at
  row_out room =
      let i : ℕ = length pre in
      let n : Mark = record { used = record { len = s.used }; count = s.count } in
      let r : i < length (rows s.log s.table n) = row_here in
      let k : (get_or (rows s.log s.table n) i blank).key ≡ q.key = row_key in
      rw (lt-ltb i (length (rows s.log s.table n)) r)
      (row_ended s.log s.table n (record { agrees = g.agrees; count = g.counted }) i (omega (arith, rows-count s.log s.table n)) (omega (arith, ap length k))
      ∙ ap (λ (y : List ℕ). appended s (del y)) k)

-- ---- one write

-- the store s' agrees again, has used so much more, and the pairs xs stand in its map behind pre
pub record Turns (s : State) (pre xs : List Pair) (size : ℕ) (s' : State) : Type 0 where
  pub right : Right s'
  pub post : List Pair
  pub map : map_of s'.log s'.used ≡ pre ++ (xs ++ post)
  pub long : length s'.log ≡ length s.log
  pub ends : s'.used ≡ s.used + size

one_used : (s : State) (k : List ℕ) → (appended s (del k)).used ≡ s.used + (8 + length k)
unfolding appended
one_used s k = omega arith

one_long : (s : State) (k : List ℕ) → s.used + (8 + length k) ≤ length s.log → length (appended s (del k)).log ≡ length s.log
unfolding appended_all size_all
one_long s k h = all_size s (del k ∷ []) (omega arith)

-- the map without a key
one_map : (s : State) (k : List ℕ) → Right s → s.used + (8 + length k) ≤ length s.log → {m : List Pair} → map_of s.log s.used ≡ m
    → map_of (appended s (del k)).log (appended s (del k)).used ≡ cut_in k m
unfolding after
one_map s k g h e = del-map s k g (omega arith) ∙ ap (cut_in k) e

module _ (s : State) (g : Right s) (pre : List Pair) (q : Pair) (xs post : List Pair) (e : map_of s.log s.used ≡ pre ++ ((q ∷ xs) ++ post))
    (b : Below pre (q ∷ xs)) (a : All (λ (p : Pair). Written p.key) (q ∷ xs)) (w : Written q.key) (v : ℕ)
    (room : s.used + (8 + length (encode (version w.user v)) + (8 + length q.key)) ≤ length s.log) where
  abbrev named : List ℕ
  named = encode (version w.user v)

  abbrev mid : State
  mid = appended s (del named)

  abbrev rest : List Pair
  rest = xs ++ cut_in named post

  mid_right : Right mid
  mid_right = del_right s named g (omega arith)

  mid_map : map_of mid.log mid.used ≡ pre ++ (q ∷ rest)
  mid_map =
      one_map s named g (omega arith) e ∙ cut_past named ((q ∷ xs) ++ post) (below_head named q xs (written_under w w.user v) b)
      ∙ ap (λ (m : List Pair). pre ++ m) (cut_past named post (all_under w.user v a))

  room_mid : mid.used + (8 + length q.key) ≤ length mid.log
  room_mid = omega (arith, one_used s named, one_long s named (omega arith))

  pub turn-steps : Turns s pre xs (8 + length (encode (version w.user v)) + (8 + length q.key)) (appended (appended s (del (encode (version w.user v)))) (del q.key))
  turn-steps =
      record {
        right = del_right mid q.key mid_right (omega (arith, room_mid));
        post = cut_in named post;
        map = one_map mid q.key mid_right room_mid mid_map ∙ cut_past q.key (q ∷ rest) (below_own q xs b) ∙ ap (λ (m : List Pair). pre ++ m) (cut_here q rest);
        long = one_long mid q.key room_mid ∙ one_long s named (omega arith);
        ends = omega (arith, one_used mid q.key, one_used s named);
      }

  pub turn-undone : undo_row s (length pre) v ≡ appended (appended s (del (encode (version w.user v)))) (del q.key)
  unfolding undo_row
  turn-undone =
      rw (lt-ltb (length pre) (length (rows_at s)) (row_here s g pre q (xs ++ post) e))
      (ap (λ (k : List ℕ). undo_one s (length pre) v (user_in k)) (row_key s g pre q (xs ++ post) e) ∙ ap (undo_one s (length pre) v) w.says
      ∙ ap (λ (y : State). end_where y (length pre)) (sym (del_done s named (omega arith) refl)) ∙ row_out mid mid_right pre q rest mid_map room_mid)
