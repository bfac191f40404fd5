-- Where the table agrees with the log, a span's writes undone and one key more deleted are their tombstones appended. Assumes nothing.
use Prim.Native.Nat.{ℕ, zero, suc, ◌+◌, ◌-◌, ◌≤◌}
use mathlib.Core.Path.{◌≡◌, refl, sym, ap, ◌∙◌, subst}
use mathlib.Core.Bool.{Bool, true, false}
use mathlib.Core.List.{List, [], ◌∷◌, ◌++◌, append_assoc}
use native.Mathlib.Decide.{dec_le}
use native.Mathlib.Omega.{arith}
use lib.Dec.{leb}
use lib.ListN.{length, take, drop, take-append-drop}
use lib.Seq.{length-take-le}
use Rattle.std.specs.Prelude.{Result, Ok, Err, Option, ℕ, Some, None}
use Rattle.bitcask.specs.declared.request.Used.{Used}
use Rattle.keycode.specs.declared.refusal.Refusal.{Refusal}
use Rattle.keycode.specs.Tests.{pick}
use Rattle.keycode.specs.key.Keys.{encode, version}
use Rattle.keycode.specs.declared.refusal.Refusal.TheVariants.{LogFull, BadStore}
use Rattle.keycode.proofs.NumberLaws.{Bytes, bytes_take, bytes_drop}
use Rattle.bitcask.specs.entry.Entry.{Entry, del}
use Rattle.bitcask.specs.keydir.Place.{All, all_none, all_more}
use Rattle.bitcask.specs.recovery.Map.{Pair, Rising}
use Rattle.bitcask.specs.recovery.Recover.{map_of}
use Rattle.bitcask.proofs.recovery.FoldLaws.{map-rising}
use Rattle.bitcask.specs.change.Append.{State, appended, room_after, size_all}
use Rattle.bitcask.specs.declared.engine.mark.Mark.{Mark}
use Rattle.bitcask.specs.declared.engine.span.Span.{Span}
use Rattle.bitcask.specs.engine.Rows.{Row, rows, pairs, Stands}
use Rattle.bitcask.specs.engine.Spots.{rank}
use Rattle.bitcask.specs.engine.Marks.{Held, Agreeing, mark_of}
use Rattle.bitcask.specs.engine.Ranges.{rows_from, between}
use Rattle.bitcask.specs.engine.Endings.{tombstones, room_tombs}
use Rattle.bitcask.proofs.engine.RowLaws.{rows-map, rows_stand}
use Rattle.bitcask.proofs.engine.SpanLaws.{width_rows}
use Rattle.bitcask.proofs.engine.PairLaws.{pair_of, pairs-length, pairs-from}
use Rattle.bitcask.proofs.engine.LeftLaws.{Keeps, keeps-more, keeps_held}
use Rattle.bitcask.proofs.engine.AgainLaws.{Right}
use Rattle.mvcc.specs.request.Lists.{appended_all, room_all, Dels, dels_none, dels_more}
use Rattle.mvcc.proofs.request.ListLaws.{size_append}
use Rattle.mvcc.proofs.request.FitLaws.{room-all}
use Rattle.mvcc.specs.undo.Plans.{user_in, undo_by, undos_of, all_users}
use Rattle.mvcc.specs.undo.Undo.{undo_row, undo_many, undoing, Undoes}
use Rattle.mvcc.specs.end.Promises.{among}
use Rattle.mvcc.specs.end.Ways.{store_of, del_where, Closes}
use Rattle.mvcc.proofs.end.EndLaws.{leaves_refused, room-append, room-rows}
use Rattle.mvcc.proofs.end.CloseLaws.{del_where_keeps, last_size, last-appended, last-room, closes_full, closes_done}
use Rattle.mvcc.proofs.undo.UndoKeyLaws.{named-long, Written, all-written}
use Rattle.mvcc.proofs.undo.UndoStepLaws.{many-keeps}
use Rattle.mvcc.proofs.undo.UndoTurnLaws.{Below, below-tail, rising-below, turn-steps, turn-undone}

-- ---- the entries

undos_more : (v : ℕ) (q : Pair) (m : List Pair) (w : Written q.key) → undos_of v (q ∷ m) ≡ del (encode (version w.user v)) ∷ del q.key ∷ undos_of v m
unfolding undos_of
undos_more v q m w = ap (λ (o : Option (List ℕ)). undo_by v q.key o ++ undos_of v m) w.says

by_dels : (v : ℕ) (b : List ℕ) (o : Option (List ℕ)) {es : List Entry} → Dels es → Dels (undo_by v b o ++ es)
by_dels v b None d = d
by_dels v b (Some u) d = dels_more (dels_more d)

pub undos_dels : (v : ℕ) (m : List Pair) (key : List ℕ) → Dels (undos_of v m ++ (del key ∷ []))
unfolding undos_of
undos_dels v [] key = dels_more dels_none
undos_dels v (q ∷ m) key = subst Dels (sym (append_assoc (undo_by v q.key (user_in q.key)) (undos_of v m) (del key ∷ []))) (by_dels v q.key (user_in q.key) (undos_dels v m key))

-- a Version key is as long as the TxnWrite key that names it
undos_size : (v : ℕ) (rs : List Row) → All (λ (q : Pair). Written q.key) (pairs rs) → size_all (undos_of v (pairs rs)) ≡ size_all (tombstones rs) + size_all (tombstones rs)
unfolding pairs tombstones size_all
undos_size v [] a = unfold undos_of in refl
undos_size v (r ∷ rs) (all_more w a) = omega (arith, ap size_all (undos_more v (pair_of r) (pairs rs) w), named-long w.wrote v, undos_size v rs a)

-- ---- the loop

none-undone : (s : State) (i v : ℕ) → undo_many 0 s i v ≡ appended_all s (undos_of v [])
unfolding undo_many appended_all undos_of
none-undone s i v = refl

turned : (v n : ℕ) (s : State) (i : ℕ) → undo_many (suc n) s i v ≡ undo_many n (undo_row s i v) i v
unfolding undo_many
turned v n s i = refl

-- the pairs xs, which stand behind pre in the map
undos_agree : (v : ℕ) (xs : List Pair) (s : State) → Right s → (pre post : List Pair) → map_of s.log s.used ≡ pre ++ (xs ++ post) → Below pre xs → All (λ (q : Pair). Written q.key) xs
    → s.used + size_all (undos_of v xs) ≤ length s.log → undo_many (length xs) s (length pre) v ≡ appended_all s (undos_of v xs)
unfolding size_all
undos_agree v [] s g pre post es b a room = none-undone s (length pre) v
undos_agree v (q ∷ xs) s g pre post es b (all_more w a) room =
    let e = undos_more v q xs w in
    let r : s.used + (8 + length (encode (version w.user v)) + (8 + length q.key)) ≤ length s.log = omega (arith, ap size_all e) in
    let s' : State = appended (appended s (del (encode (version w.user v)))) (del q.key) in
    let t = turn-steps s g pre q xs post es b (all_more w a) w v r in
    turned v (length xs) s (length pre)
    ∙ ap (λ (y : State). undo_many (length xs) y (length pre) v) (turn-undone s g pre q xs post es b (all_more w a) w v r)
    ∙ undos_agree v xs s' t.right pre t.post t.map (below-tail q xs b) a (omega (arith, ap size_all e, t.ends, t.long))
    ∙ unfold appended_all in (ap (appended_all s) (sym e))

-- ---- the rows of a span

parts : (a b : ℕ) (ps : List Pair) → a ≤ b → ps ≡ take a ps ++ (drop a (take b ps) ++ drop b ps)
parts zero b ps h = sym (take-append-drop b ps)
parts (suc a) zero ps h = absurd (omega arith)
parts (suc a) (suc b) [] h = refl
parts (suc a) (suc b) (q ∷ ps) h = ap (λ (r : List Pair). q ∷ r) (parts a b ps (omega arith))

all_take : {P : Row → Type 0} (n : ℕ) {rs : List Row} → All P rs → All P (take n rs)
all_take zero a = all_none
all_take (suc n) all_none = all_none
all_take (suc n) (all_more p a) = all_more p (all_take n a)

all_drop : {P : Row → Type 0} (n : ℕ) {rs : List Row} → All P rs → All P (drop n rs)
all_drop zero a = a
all_drop (suc n) all_none = all_none
all_drop (suc n) (all_more p a) = all_drop n a

-- keys that stand in a log are bytes
stand_bytes : (log : List ℕ) → Bytes log → {rs : List Row} → All (Stands log) rs → All (λ (q : Pair). Bytes q.key) (pairs rs)
unfolding pairs
stand_bytes log b all_none = all_none
stand_bytes log b (all_more {x = r} s a) = all_more (subst Bytes s.key (bytes_take (length r.key) (drop r.at log) (bytes_drop r.at log b))) (stand_bytes log b a)

size_same : (n : ℕ) (es fs : List Entry) → size_all es ≡ size_all fs → room_all (Some n) es ≡ room_all (Some n) fs
size_same n es fs e = room-all n es ∙ ap (λ (k : ℕ). pick (leb k n) (Some (n - k)) None) e ∙ sym (room-all n fs)

module _ (log t : List ℕ) (m : Mark) (span : Span) (v : ℕ) (key : List ℕ) (h : Held log t m) (k : rank span.to (rows log t m) ≤ length (rows log t m)) where
  abbrev i : ℕ
  i = rank span.from (rows log t m)

  abbrev j : ℕ
  j = rank span.to (rows log t m)

  abbrev rs : List Row
  rs = between span.from span.to (rows log t m)

  abbrev ps : List Pair
  ps = pairs (rows log t m)

  abbrev es : List Entry
  es = undos_of v (pairs rs) ++ (del key ∷ [])

  abbrev s : State
  s = store_of log t m

  abbrev free : Option ℕ
  free = Some (length log - m.used.len)

  at-answer : {a b r : Result Used Refusal} {ns log' t' : List ℕ} → a ≡ b → Closes log t m es ns b r log' t' → Closes log t m es ns a r log' t'
  at-answer e c = rw e c

  pub undo_bad : {b : Bool} → b ≡ all_users (pairs rs) → b ≡ false → Undoes log t m rs v key (Err BadStore) log t
  unfolding among undoing
  undo_bad e f = let z : all_users (pairs rs) ≡ false = sym e ∙ f in at-answer (rw z) (record { leaves = leaves_refused log m.used.len t es BadStore; numbers = refl; answer = λ g. refl })

  module _ (y : Bytes log) {b : Bool} (eb : b ≡ all_users (pairs rs)) (et : b ≡ true) where
    every : all_users (pairs rs) ≡ true
    every = sym eb ∙ et

    written : All (λ (q : Pair). Written q.key) (pairs rs)
    unfolding between rows_from
    written = all-written (pairs rs) (stand_bytes log y (all_drop i (all_take j (rows_stand log t m)))) every

    module _ {once twice left : Option ℕ} (eo : once ≡ room_tombs (Some (length log - m.used.len)) rs) (ew : twice ≡ room_tombs once rs) (el : left ≡ room_after twice (length key) 0) where
      -- the room that the code finds is the list's
      undo_room : left ≡ room_all free es
      undo_room =
          let ds : List Entry = tombstones rs in
          el
          ∙ ap (λ (r : Option ℕ). room_after r (length key) 0)
          (ew ∙ ap (λ (r : Option ℕ). room_tombs r rs) eo ∙ room-rows (room_tombs free rs) rs ∙ ap (λ (r : Option ℕ). room_all r ds) (room-rows free rs) ∙ sym (room-append free ds ds))
          ∙ last-room free (ds ++ ds) key
          ∙ size_same (length log - m.used.len) ((ds ++ ds) ++ (del key ∷ [])) es
          (omega (arith, last_size (ds ++ ds) key, size_append ds ds, last_size (undos_of v (pairs rs)) key, undos_size v rs written))

      pub undo_full : left ≡ None → Undoes log t m rs v key (Err LogFull) log t
      unfolding among undoing
      undo_full z = at-answer (rw every) (closes_full log t m es (0 ∷ 7 ∷ 12 ∷ []) refl (sym undo_room ∙ z))

      module _ {n : ℕ} (en : n ≡ rank span.to (rows log t m) - rank span.from (rows log t m)) where
        pairs_are : pairs rs ≡ drop i (take j ps)
        unfolding between
        pairs_are = pairs-from i j (rows log t m)

        many_is : n ≡ length (pairs rs)
        many_is = en ∙ sym (pairs-length rs ∙ width_rows span.from span.to (rows log t m) k)

        all-undone : Agreeing log t m → m.used.len + size_all (undos_of v (pairs rs)) ≤ length log → undo_many n s i v ≡ appended_all s (undos_of v (pairs rs))
        all-undone g room = go (dec_le i j)
          where
            lone : (xs : List Pair) → length xs ≡ 0 → undo_many (length xs) s i v ≡ appended_all s (undos_of v xs)
            lone [] e = none-undone s i v
            lone (q ∷ xs) e = absurd (omega arith)

            go : Dec (i ≤ j) → undo_many n s i v ≡ appended_all s (undos_of v (pairs rs))
            go (no z) = ap (λ (x : ℕ). undo_many x s i v) many_is ∙ lone (pairs rs) (omega (arith, many_is, en))
            go (yes z) =
                let pre : List Pair = take i ps in
                let l : length pre ≡ i = length-take-le i ps (omega (arith, pairs-length (rows log t m))) in
                let q : ps ≡ pre ++ (pairs rs ++ drop j ps) = parts i j ps z ∙ ap (λ (xs : List Pair). pre ++ (xs ++ drop j ps)) (sym pairs_are) in
                let f : map_of log m.used.len ≡ pre ++ (pairs rs ++ drop j ps) = sym (rows-map log t m g) ∙ q in
                ap (λ (x : ℕ). undo_many x s i v) many_is ∙ ap (λ (x : ℕ). undo_many (length (pairs rs)) s x v) (sym l)
                ∙ undos_agree v (pairs rs) s (record { agrees = g.agrees; counted = g.count }) pre (drop j ps) f
                (rising-below pre (pairs rs) (drop j ps) (subst Rising f (map-rising log m.used.len))) written room

        module _ {log' t' : List ℕ} {mid : Mark} (e : store_of log' t' mid ≡ undo_many n (store_of log t m) (rank span.from (rows log t m)) v) where
          mid_keeps : Keeps s (store_of log' t' mid)
          mid_keeps = subst (Keeps s) (sym e) (many-keeps n s i v h)

          undo_held : Held log' t' mid
          undo_held = keeps_held h mid_keeps

          pub undo_done : (x : ℕ) → left ≡ Some x → m ≡ mark_of m.used t → {l : State} → l ≡ del_where (store_of log' t' mid) key
              → Undoes log t m rs v key (Ok (record { len = l.used })) l.log l.table
          unfolding among undoing
          undo_done x z em {l} f =
              at-answer (rw every)
              (closes_done log t m es (0 ∷ 7 ∷ 12 ∷ []) refl em (undos_dels v (pairs rs) key) x (sym undo_room ∙ z) l
              (keeps-more mid_keeps (subst (Keeps (store_of log' t' mid)) (sym f) (del_where_keeps key undo_held)))
              (λ g room. f ∙ ap (λ (q : State). del_where q key) (e ∙ all-undone g (omega (arith, last_size (undos_of v (pairs rs)) key))) ∙ last-appended s (undos_of v (pairs rs)) key room))
