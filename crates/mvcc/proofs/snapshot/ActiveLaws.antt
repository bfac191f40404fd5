-- What the code reads at a begin, for any table: NextVersion, the version of a key, and the walk over the open versions. Assumes nothing.
use Prim.Native.Nat.{ℕ, suc, ◌+◌, ◌≤◌, ◌<◌}
use mathlib.Core.Path.{◌≡◌, refl, sym, ap, ◌∙◌}
use mathlib.Core.Bool.{Bool, true, false, not}
use mathlib.Core.List.{List, [], ◌∷◌}
use native.Mathlib.Omega.{arith}
use lib.Dec.{eqb, leb}
use lib.ListN.{length, take, drop}
use borrow.Author.Tests.{ne_eqb, eq-eqb, leb-true, leb-false}
use Rattle.std.specs.Prelude.{Result, Ok, Err, Option, ℕ, Some, None}
use Rattle.std.specs.Bool.{then_some}
use Rattle.std.specs.Option.{MatchOption}
use Rattle.keycode.specs.Tests.{pick}
use Rattle.keycode.specs.Number.{num}
use Rattle.keycode.specs.key.Keys.{encode, next_version}
use Rattle.keycode.specs.Prefix.{prefix_end}
use Rattle.keycode.specs.declared.code.Code.{Code}
use Rattle.keycode.specs.code.Codes.{Codes}
use Rattle.bitcask.specs.declared.answers.Bound.TheVariants.{Included}
use Rattle.bitcask.specs.declared.engine.mark.Mark.{Mark}
use Rattle.bitcask.specs.declared.engine.span.Span.{Span}
use Rattle.bitcask.specs.declared.engine.spot.Spot.{Spot}
use Rattle.bitcask.specs.engine.Rows.{Row, rows}
use Rattle.bitcask.specs.engine.Marks.{Held}
use Rattle.bitcask.specs.engine.Spots.{rank, row_at, placed, place_by, look_row}
use Rattle.bitcask.specs.engine.Ranges.{rows_from, between}
use Rattle.bitcask.specs.engine.Prefixes.{Prefixes, end_bound, end_bytes}
use Rattle.bitcask.proofs.engine.RowLaws.{rows-count}
use Rattle.bitcask.proofs.engine.LookLaws.{found_row, absent_row}
use Rattle.bitcask.proofs.engine.RangeLaws.{span_range}
use Rattle.bitcask.proofs.engine.SpanLaws.{from_next, from_end}
use Rattle.mvcc.specs.declared.handle.Handle.{Handle}
use Rattle.mvcc.specs.handle.Handles.{handle_of, with_version, with_all}
use Rattle.mvcc.specs.payload.Payloads.{version_in}
use Rattle.mvcc.specs.request.Ranges.{active_prefix}
use Rattle.mvcc.specs.declared.snapshot.Seen.{Seen}
use Rattle.mvcc.specs.snapshot.Active.{next_by, next_of, next_in, active_in, cons_read, versions_in, keys_in, active_rows, seen_from, seen_by}

-- ---- NextVersion

kept_by : (b : Bool) (x : ℕ) → then_some (not b) x ≡ pick b None (Some x)
kept_by true x = refl
kept_by false x = refl

-- what `filter` tells
pub next_kept : (R : ℕ → Bool → Type 0) → ((x : ℕ) (b : Bool) → R x b → b ≡ not (eqb x 0)) → (o : Option ℕ) {r : Option ℕ}
    → MatchOption o (r ≡ None) (λ (x : ℕ). (b : Bool) × R x b × (r ≡ then_some b x)) → r ≡ next_by o
next_kept R f None w = w
next_kept R f (Some x) w = w.2 ∙ rw (f x w.0 w.1) (kept_by (eqb x 0) x)

module _ (rs : List Row) (c : Code) (w : Codes c (encode next_version)) (f : Result Spot Spot) (says : placed f rs ≡ place_by (take c.len c.bytes) rs) (p : Spot) where
  next_row : look_row (take c.len c.bytes) rs ≡ look_row (encode next_version) rs
  next_row = ap (λ (k : List ℕ). look_row k rs) w.says

  pub next_missing : f ≡ Err p → Some 1 ≡ next_in rs
  unfolding next_in next_of
  next_missing e = rw (← next_row, absent_row (take c.len c.bytes) rs says p e)

  pub next_found : f ≡ Ok p → {b : List ℕ} {r q : Option ℕ} → b ≡ (row_at p rs).value → r ≡ version_in b → q ≡ next_by r → q ≡ next_in rs
  unfolding next_in next_of
  next_found e eb er eq = rw (← next_row, found_row (take c.len c.bytes) rs says p e, eq, er, eb)

-- ---- the version of a key

module _ (key : List ℕ) where
  pub active_other : (length key ≡ 9 → ⊥) → None ≡ active_in key
  unfolding active_in
  active_other n = rw (ne_eqb (length key) 9 n)

  pub active_own : length key ≡ 9 → {s : List ℕ} {v : ℕ} → s ≡ take 8 (drop 1 key) → v ≡ num s → Some v ≡ active_in key
  unfolding active_in
  active_own h es ev = rw (eq-eqb (length key) 9 h, ev, es)

-- ---- the walk

-- the versions of the rows before a spot are in the handle
pub record Gathering (rs : List Row) (from to : Spot) (start handle : Handle) (n : ℕ) (at : Spot) : Type 0 where
  pub near : n ≤ rank at rs
  pub so : seen_from n handle (versions_in (keys_in (between at to rs))) ≡ seen_from 0 start (versions_in (keys_in (between from to rs)))

pub gather_start : (rs : List Row) (from to : Spot) (start : Handle) → Gathering rs from to start start 0 from
gather_start rs from to start = record { near = omega arith; so = refl }

seen_bad : (n : ℕ) (h : Handle) (o : Option (List ℕ)) → seen_from n h (cons_read None o) ≡ None
unfolding seen_from
seen_bad n h o = refl

seen_more : (n : ℕ) (h : Handle) (v : ℕ) (o : Option (List ℕ)) → seen_from n h (cons_read (Some v) o) ≡ seen_from (n + 1) (with_version h v) o
unfolding seen_from with_all
seen_more n h v None = refl
seen_more n h v (Some vs) =
    let e : n + suc (length vs) ≡ n + 1 + length vs = omega arith in
    λ j. Some (record { tally = e j; handle = with_all (with_version h v) vs })

-- the rows of a span, by its first
span-over : (rs : List Row) (at to : Spot) → rank to rs ≤ rank at rs → rank to rs ≤ length rs → between at to rs ≡ []
unfolding between
span-over rs at to h k = from_end rs (rank at rs) (rank to rs) h k

span-next : (rs : List Row) (at to next : Spot) → rank at rs < rank to rs → rank to rs ≤ length rs → suc (rank at rs) ≡ rank next rs → between at to rs ≡ row_at at rs ∷ between next to rs
unfolding between row_at
span-next rs at to next h k e = from_next rs (rank at rs) (rank to rs) h k ∙ ap (λ (i : ℕ). row_at at rs ∷ rows_from i (rank to rs) rs) e

span-first : (rs : List Row) (at to : Spot) → rank at rs < rank to rs → rank to rs ≤ length rs → between at to rs ≡ row_at at rs ∷ rows_from (suc (rank at rs)) (rank to rs) rs
unfolding between row_at
span-first rs at to h k = from_next rs (rank at rs) (rank to rs) h k

-- whether it is over is told by ranks
module _ {rs : List Row} {from to : Spot} {start handle : Handle} {n : ℕ} {at : Spot} (w : Gathering rs from to start handle n at) (k : rank to rs ≤ length rs)
    {b : Bool} (eb : b ≡ leb (rank to rs) (rank at rs)) where
  pub gather_end : b ≡ true → Some (record { tally = n; handle = handle }) ≡ seen_from 0 start (versions_in (keys_in (between from to rs)))
  unfolding seen_from versions_in keys_in with_all
  gather_end q =
      let h : rank to rs ≤ rank at rs = leb-true (rank to rs) (rank at rs) (sym eb ∙ q) in
      let d : between at to rs ≡ [] = span-over rs at to h k in
      let e : n ≡ n + 0 = omega arith in
      (λ j. Some (record { tally = e j; handle = handle })) ∙ ap (λ (l : List Row). seen_from n handle (versions_in (keys_in l))) (sym d) ∙ w.so

  module _ (q : b ≡ false) where
    before : rank at rs < rank to rs
    before = leb-false (rank to rs) (rank at rs) (sym eb ∙ q)

    pub gather_stands : rank at rs < length rs
    gather_stands = omega (arith, before)

    module _ {key : List ℕ} (ek : key ≡ (row_at at rs).key) {r : Option ℕ} (read : r ≡ active_in key) where
      gather_on : (next : Spot) → rank next rs ≡ rank at rs + 1
          → seen_from n handle (cons_read r (versions_in (keys_in (between next to rs)))) ≡ seen_from 0 start (versions_in (keys_in (between from to rs)))
      unfolding versions_in keys_in
      gather_on next en =
          let z : suc (rank at rs) ≡ rank next rs = omega arith in
          let d : between at to rs ≡ row_at at rs ∷ between next to rs = span-next rs at to next before k z in
          ap (λ (x : Option ℕ). seen_from n handle (cons_read x (versions_in (keys_in (between next to rs))))) (read ∙ ap active_in ek)
          ∙ ap (λ (l : List Row). seen_from n handle (versions_in (keys_in l))) (sym d) ∙ w.so

      pub gather_bad : r ≡ None → None ≡ seen_from 0 start (versions_in (keys_in (between from to rs)))
      unfolding versions_in keys_in
      gather_bad e =
          let d : between at to rs ≡ row_at at rs ∷ rows_from (suc (rank at rs)) (rank to rs) rs = span-first rs at to before k in
          sym (seen_bad n handle (versions_in (keys_in (rows_from (suc (rank at rs)) (rank to rs) rs))))
          ∙ ap (λ (x : Option ℕ). seen_from n handle (cons_read x (versions_in (keys_in (rows_from (suc (rank at rs)) (rank to rs) rs))))) (sym e ∙ read ∙ ap active_in ek)
          ∙ ap (λ (l : List Row). seen_from n handle (versions_in (keys_in l))) (sym d) ∙ w.so

      pub gather_more : (v : ℕ) {h : Handle} → r ≡ Some v → h ≡ with_version handle v → (next : Spot) → rank next rs ≡ rank at rs + 1 → Gathering rs from to start h (n + 1) next
      gather_more v e f next en = record {
        near = omega (arith, w.near);
        so = rw f (sym (seen_more n handle v (versions_in (keys_in (between next to rs)))) ∙ rw e at (gather_on next en));
      }

-- the count of a walk over a store's rows fits
pub gather_fits : (log t : List ℕ) (m : Mark) → Held log t m → (n : ℕ) (at : Spot) → n ≤ rank at (rows log t m) → rank at (rows log t m) < length (rows log t m) → n + 1 ≤ length t
gather_fits log t m h n at a b = omega (arith, h.room, rows-count log t m)

-- ---- all of the tag

pub active_rows_lem : (rs : List Row) (r : Span) → Prefixes rs active_prefix r → between r.from r.to rs ≡ active_rows rs
unfolding active_rows
active_rows_lem rs r w = span_range Included active_prefix (end_bound (prefix_end active_prefix)) (end_bytes active_prefix (prefix_end active_prefix)) w

pub actives_seen : (rs : List Row) (start : Handle) (r : Span) {q : Option Seen} → Prefixes rs active_prefix r
    → q ≡ seen_from 0 start (versions_in (keys_in (between r.from r.to rs))) → q ≡ seen_from 0 start (versions_in (keys_in (active_rows rs)))
actives_seen rs start r w e = e ∙ ap (λ (l : List Row). seen_from 0 start (versions_in (keys_in l))) (active_rows_lem rs r w)

pub round_bad : (ro : Bool) {v r : Option ℕ} (o : Option (List ℕ)) → r ≡ v → r ≡ None → None ≡ seen_by ro v o
round_bad ro o er e = rw (← er, e)

pub round_seen : (ro : Bool) {x r : Option ℕ} (o : Option (List ℕ)) (v : ℕ) {h : Handle} {q : Option Seen} → r ≡ x → r ≡ Some v → h ≡ handle_of v ro [] → q ≡ seen_from 0 h o
    → q ≡ seen_by ro x o
round_seen ro o v er e eh eq = rw (← er, e, eq, eh)
