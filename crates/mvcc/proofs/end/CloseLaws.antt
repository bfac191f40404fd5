-- Tombstones appended, all or none, by what the code finds: one key deleted, and the rows of a span with it. Assumes nothing.
use Prim.Native.Nat.{ℕ, ◌+◌, ◌-◌, ◌<◌, ◌≤◌}
use mathlib.Core.Path.{◌≡◌, refl, sym, ap, ◌∙◌, subst}
use mathlib.Core.Bool.{true}
use mathlib.Core.List.{List, [], ◌∷◌, ◌++◌, append-nil}
use native.Mathlib.Decide.{dec_le}
use native.Mathlib.Omega.{arith}
use lib.ListN.{length, replicate}
use borrow.Author.Tests.{le-leb, lt-leb}
use Rattle.std.specs.Prelude.{Result, Ok, Err, Option, ℕ, Some, None}
use Rattle.bitcask.specs.declared.request.Used.{Used}
use Rattle.keycode.specs.declared.refusal.Refusal.{Refusal}
use Rattle.keycode.specs.Buffer.{put}
use Rattle.keycode.specs.Number.{be}
use Rattle.keycode.specs.declared.refusal.Refusal.TheVariants.{LogFull}
use Rattle.keycode.proofs.NumberLaws.{length-be}
use Rattle.bitcask.specs.entry.Entry.{Entry, del}
use Rattle.bitcask.specs.change.Append.{State, appended, room_after, size_all, append_answer}
use Rattle.bitcask.specs.declared.engine.mark.Mark.{Mark}
use Rattle.bitcask.specs.declared.engine.span.Span.{Span}
use Rattle.bitcask.specs.engine.Rows.{Row, rows}
use Rattle.bitcask.specs.engine.Spots.{rank}
use Rattle.bitcask.specs.engine.Marks.{Held, Agreeing, mark_of}
use Rattle.bitcask.specs.engine.Ranges.{rows_from, between}
use Rattle.bitcask.specs.engine.Prefixes.{Prefixes}
use Rattle.bitcask.specs.engine.Endings.{tombstones, room_tombs, ended_span}
use Rattle.bitcask.specs.engine.Endings as Endings
use Rattle.bitcask.proofs.engine.RowLaws.{rows-count}
use Rattle.bitcask.proofs.engine.EndedLaws.{span-ended}
use Rattle.bitcask.proofs.engine.LeftLaws.{Keeps, keeps-none, keeps-more, keeps_held, ended-keeps, del-keeps}
use Rattle.mvcc.specs.request.Ranges.{write_prefix}
use Rattle.mvcc.specs.request.Lists.{appended_all, room_all, Dels, dels_none, dels_more}
use Rattle.mvcc.proofs.request.ListLaws.{all-used, all_size, all_append, size_append}
use Rattle.mvcc.proofs.request.FitLaws.{dels_append}
use Rattle.mvcc.specs.end.Promises.{among}
use Rattle.mvcc.specs.end.Ways.{store_of, del_where, Closes, clearing, Clears}
use Rattle.mvcc.proofs.end.EndLaws.{leaves_refused, leaves_done, room-append, room-rows, dels_room, dels_done, dels_full}

-- ---- the prefix of a version's writes

write_bytes : (v : ℕ) {out : List ℕ} → out ≡ put (replicate {A = ℕ} 9 3) 1 (be 8 v) → out ≡ write_prefix v
unfolding put
write_bytes v e = e ∙ rw (length-be 8 v) (append-nil (3 ∷ be 8 v))

pub write_rows : (rs : List Row) (v : ℕ) {out : List ℕ} {r : Span} → out ≡ put (replicate {A = ℕ} 9 3) 1 (be 8 v) → Prefixes rs out r → Prefixes rs (write_prefix v) r
write_rows rs v {r = r} e w = subst (λ (p : List ℕ). Prefixes rs p r) (write_bytes v e) w

-- ---- one key

module _ (s : State) (key : List ℕ) where
  pub del_tight : length s.log < s.used + 8 + length key → s ≡ del_where s key
  unfolding del_where
  del_tight h = rw (lt-leb (s.used + 8 + length key) (length s.log) h)

  pub del_done : s.used + 8 + length key ≤ length s.log → {r : State} → r ≡ appended s (del key) → r ≡ del_where s key
  unfolding del_where
  del_done h e = rw (le-leb (s.used + 8 + length key) (length s.log) h) e

-- what it keeps of a store that was entered
pub del_where_keeps : {log t : List ℕ} {m : Mark} (key : List ℕ) → Held log t m → Keeps (store_of log t m) (del_where (store_of log t m) key)
del_where_keeps {log} {t} {m} key h = go (dec_le (m.used.len + 8 + length key) (length log))
  where
    go : Dec (m.used.len + 8 + length key ≤ length log) → Keeps (store_of log t m) (del_where (store_of log t m) key)
    go (yes k) = subst (Keeps (store_of log t m)) (del_done (store_of log t m) key k refl) (del-keeps (store_of log t m) h.within h.room key (omega arith))
    go (no k) = subst (Keeps (store_of log t m)) (del_tight (store_of log t m) key (omega arith)) (keeps-none (store_of log t m) h.within h.room)

-- ---- a list of tombstones

single : (s : State) (key : List ℕ) → appended_all s (del key ∷ []) ≡ appended s (del key)
unfolding appended_all
single s key = refl

pub last_size : (es : List Entry) (key : List ℕ) → size_all (es ++ (del key ∷ [])) ≡ size_all es + (8 + length key)
unfolding size_all
last_size es key = omega (arith, size_append es (del key ∷ []))

-- the last of them is of a key
pub last-appended : (s : State) (es : List Entry) (key : List ℕ) → s.used + size_all (es ++ (del key ∷ [])) ≤ length s.log → del_where (appended_all s es) key ≡ appended_all s (es ++ (del key ∷ []))
last-appended s es key room =
    let u = all-used s es in
    let l = all_size s es (omega (arith, last_size es key)) in
    sym (del_done (appended_all s es) key (omega (arith, last_size es key)) refl) ∙ sym (single (appended_all s es) key) ∙ sym (all_append s es (del key ∷ []))

-- the room behind it
pub last-room : (room : Option ℕ) (es : List Entry) (key : List ℕ) → room_after (room_all room es) (length key) 0 ≡ room_all room (es ++ (del key ∷ []))
last-room room es key = sym (room-append room es (del key ∷ []) ∙ unfold room_all in refl)

module _ (log t : List ℕ) (m : Mark) (es : List Entry) (ns : List ℕ) where
  abbrev used : ℕ
  used = m.used.len

  abbrev answer_of : Result Used Refusal
  answer_of = append_answer log used (length t) es

  pub closes_full : among 7 ns ≡ true → room_all (Some (length log - used)) es ≡ None → Closes log t m es ns answer_of (Err LogFull) log t
  closes_full n z = record { leaves = leaves_refused log used t es LogFull; numbers = n; answer = λ g. sym (dels_full log used t es g z) }

  -- where there is room, and under agreement the code has appended them
  pub closes_done : among 0 ns ≡ true → m ≡ mark_of m.used t → Dels es → (x : ℕ) → room_all (Some (length log - used)) es ≡ Some x → (s : State) → Keeps (store_of log t m) s
      → (Agreeing log t m → used + size_all es ≤ length log → s ≡ appended_all (store_of log t m) es)
      → Closes log t m es ns answer_of (Ok (record { len = s.used })) s.log s.table
  closes_done n em d x z s k f =
      let c = ap (λ (y : Mark). y.count) em in
      record {
        leaves = leaves_done log used t m.count es s k
            (λ g. rw (f (record { agrees = g; count = c }) (dels_room log used t es g x z)) (dels_append log used t es g m.count c (dels_room log used t es g x z) d));
        numbers = n;
        answer = λ g.
            let room = dels_room log used t es g x z in
            ap (λ (y : State). Ok (record { len = y.used })) (f (record { agrees = g; count = c }) room)
            ∙ ap (λ (k : ℕ). Ok (record { len = k })) (all-used (store_of log t m) es) ∙ sym (dels_done log used t es g d room);
      }

-- ---- the rows of a span

pub clearing_dels : (rs : List Row) (key : List ℕ) → Dels (clearing rs key)
unfolding clearing tombstones
clearing_dels [] key = dels_more dels_none
clearing_dels (r ∷ rs) key = dels_more (clearing_dels rs key)

all_same : (s : State) (es : List Entry) → Endings.appended_all s es ≡ appended_all s es
unfolding appended_all Endings.appended_all
all_same s [] = refl
all_same s (e ∷ es) = all_same (appended s e) es

module _ (log t : List ℕ) (m : Mark) (span : Span) (h : Held log t m) (k : rank span.to (rows log t m) ≤ length (rows log t m)) where
  to-count : rank span.to (rows log t m) ≤ m.count
  to-count = omega (arith, rows-count log t m)

  abbrev i : ℕ
  i = rank span.from (rows log t m)

  abbrev j : ℕ
  j = rank span.to (rows log t m)

  abbrev rs : List Row
  rs = between span.from span.to (rows log t m)

  -- the room that the code finds is the list's
  clear_room : {room left : Option ℕ} (key : List ℕ) → room ≡ room_tombs (Some (length log - m.used.len)) rs → left ≡ room_after room (length key) 0
      → left ≡ room_all (Some (length log - m.used.len)) (tombstones rs ++ (del key ∷ []))
  clear_room key er el =
      let free : (Option ℕ) = Some (length log - m.used.len) in
      el ∙ ap (λ (r : Option ℕ). room_after r (length key) 0) (er ∙ room-rows free rs) ∙ last-room free (tombstones rs) key

  pub clear_full : {room left : Option ℕ} (key : List ℕ) → room ≡ room_tombs (Some (length log - m.used.len)) rs → left ≡ room_after room (length key) 0 → left ≡ None
      → Clears log t m rs key (Err LogFull) log t
  unfolding among clearing
  clear_full key er el z = closes_full log t m (tombstones rs ++ (del key ∷ [])) (0 ∷ 7 ∷ []) refl (sym (clear_room key er el) ∙ z)

  module _ {log' t' : List ℕ} {mid : Mark} (e : store_of log' t' mid ≡ ended_span (store_of log t m) i j) where
    mid_keeps : Keeps (store_of log t m) (store_of log' t' mid)
    mid_keeps = subst (Keeps (store_of log t m)) (sym e) (ended-keeps (store_of log t m) h.within h.room i j to-count)

    pub mid_held : Held log' t' mid
    mid_held = keeps_held h mid_keeps

    ended-all : Agreeing log t m → m.used.len + size_all (tombstones rs) ≤ length log → store_of log' t' mid ≡ appended_all (store_of log t m) (tombstones rs)
    unfolding between
    ended-all g room = e ∙ span-ended log t m g i j to-count room ∙ all_same (store_of log t m) (tombstones (rows_from i j (rows log t m)))

    pub clear_done : {room left : Option ℕ} (key : List ℕ) → room ≡ room_tombs (Some (length log - m.used.len)) rs → left ≡ room_after room (length key) 0 → (x : ℕ) → left ≡ Some x
        → m ≡ mark_of m.used t → {l : State} → l ≡ del_where (store_of log' t' mid) key → Clears log t m rs key (Ok (record { len = l.used })) l.log l.table
    unfolding among clearing
    clear_done key er el x z em {l} f =
        closes_done log t m (tombstones rs ++ (del key ∷ [])) (0 ∷ 7 ∷ []) refl em (unfold clearing in clearing_dels rs key) x (sym (clear_room key er el) ∙ z) l
        (keeps-more mid_keeps (subst (Keeps (store_of log' t' mid)) (sym f) (del_where_keeps key mid_held)))
        (λ g room. f ∙ ap (λ (y : State). del_where y key) (ended-all g (omega (arith, last_size (tombstones rs) key))) ∙ last-appended (store_of log t m) (tombstones rs) key room)
