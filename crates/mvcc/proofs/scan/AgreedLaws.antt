-- Under agreement the rows that a step reads are those of the log whose keys its test admits. Assumes nothing.
use Prim.Native.Nat.{ℕ}
use mathlib.Core.Path.{◌≡◌, refl, sym, ap, ◌∙◌, subst}
use mathlib.Core.Bool.{Bool, true, false}
use mathlib.Core.List.{List}
use lib.ListN.{length, drop}
use Rattle.std.specs.declared.cmp.Ordering.{Ordering}
use Rattle.std.specs.declared.cmp.Ordering.TheVariants.{Less, Equal, Greater}
use Rattle.keycode.specs.Tests.{pick}
use Rattle.keycode.specs.Order.{compare_bytes}
use Rattle.keycode.specs.Prefix.{prefix_end, searched}
use Rattle.keycode.proofs.Basics.{nope}
use Rattle.keycode.proofs.NumberLaws.{Bytes, bytes_take, bytes_drop}
use Rattle.keycode.proofs.OrderLaws.{compare_equal, compare_trans}
use Rattle.bitcask.specs.keydir.Place.{All, all_none, all_more}
use Rattle.bitcask.specs.declared.answers.Bound.{Bound}
use Rattle.bitcask.specs.declared.answers.Bound.TheVariants.{Included, Excluded, Unbounded}
use Rattle.bitcask.specs.read.Ranks.{last_bound, admits_low, admits_high, admitted}
use Rattle.bitcask.specs.declared.engine.mark.Mark.{Mark}
use Rattle.bitcask.specs.engine.Rows.{Row, rows, rows_in, Stands}
use Rattle.bitcask.specs.engine.Marks.{Agreeing}
use Rattle.bitcask.specs.engine.Spots.{from_rank}
use Rattle.bitcask.specs.engine.Ranges.{inside, keep_rows}
use Rattle.bitcask.specs.engine.Prefixes.{end_bound, end_bytes}
use Rattle.bitcask.proofs.engine.RowLaws.{rows_agree, in_stand}
use Rattle.bitcask.proofs.engine.PrefixLaws.{begins-inside}
use Rattle.mvcc.specs.walk.Walks.{up_from}
use Rattle.mvcc.proofs.walk.UpLaws.{up_in, keep_tests, greater_less, less_greater}
use Rattle.mvcc.specs.scan.Bounds.{low_kind, low_bytes, high_kind, high_bytes, past_rows, scan_rows, prefix_rows, scanned, prefixed}

-- ---- of two lower bounds the later one decides

module _ (low last k : List ℕ) where
  -- a key that a bound behind the last one admits
  low-after : admits_low Excluded (compare_bytes low last) ≡ true → admits_low Included (compare_bytes k low) ≡ true → admits_low Excluded (compare_bytes k last) ≡ true
  low-after = go (compare_bytes low last) refl (compare_bytes k low) refl
    where
      go : (a : Ordering) → compare_bytes low last ≡ a → (b : Ordering) → compare_bytes k low ≡ b → admits_low Excluded a ≡ true → admits_low Included b ≡ true → admits_low Excluded (compare_bytes k last) ≡ true
      go Less p b q x y = nope (cc)
      go Equal p b q x y = nope (cc)
      go Greater p Less q x y = nope (cc)
      go Greater p Equal q x y = ap (admits_low Excluded) (ap (λ (z : List ℕ). compare_bytes z last) (compare_equal k low q) ∙ p)
      go Greater p Greater q x y = ap (admits_low Excluded) (less_greater last k (compare_trans last low k (greater_less low last p) (greater_less k low q)))

  -- a key behind the last one, which does not come before the bound
  low-before : admits_low Excluded (compare_bytes low last) ≡ false → admits_low Excluded (compare_bytes k last) ≡ true → admits_low Excluded (compare_bytes k low) ≡ true
  low-before = go (compare_bytes low last) refl (compare_bytes k last) refl
    where
      go : (a : Ordering) → compare_bytes low last ≡ a → (b : Ordering) → compare_bytes k last ≡ b → admits_low Excluded a ≡ false → admits_low Excluded b ≡ true → admits_low Excluded (compare_bytes k low) ≡ true
      go a p Less q x y = nope (cc)
      go a p Equal q x y = nope (cc)
      go Less p Greater q x y = ap (admits_low Excluded) (less_greater low k (compare_trans low last k p (greater_less k last q)))
      go Equal p Greater q x y = ap (admits_low Excluded) (ap (compare_bytes k) (compare_equal low last p) ∙ q)
      go Greater p Greater q x y = nope (cc)

also_included : (o : Ordering) → admits_low Excluded o ≡ true → admits_low Included o ≡ true
also_included Less e = nope (cc)
also_included Equal e = nope (cc)
also_included Greater e = refl

module _ (low last k : List ℕ) where
  bound-says : (lower : Bound) → (lower ≡ Unbounded → ⊥) → admits_low Excluded (compare_bytes low last) ≡ true → admits_low lower (compare_bytes k low) ≡ true
      → admits_low Excluded (compare_bytes k last) ≡ true
  bound-says Included n e f = low-after low last k e f
  bound-says Excluded n e f = low-after low last k e (also_included (compare_bytes k low) f)
  bound-says Unbounded n e f = absurd (n refl)

  last_says : (lower : Bound) → admits_low Excluded (compare_bytes low last) ≡ false → admits_low Excluded (compare_bytes k last) ≡ true → admits_low lower (compare_bytes k low) ≡ true
  last_says Included e f = also_included (compare_bytes k low) (low-before low last k e f)
  last_says Excluded e f = low-before low last k e f
  last_says Unbounded e f = refl

first_rules : (a b c : Bool) → (a ≡ true → b ≡ true) → pick a c false ≡ pick a (pick b c false) false
first_rules true b c f = rw (f refl)
first_rules false b c f = refl

second_rules : (a b c : Bool) → (b ≡ true → a ≡ true) → pick b c false ≡ pick a (pick b c false) false
second_rules a true c f = rw (f refl)
second_rules true false c f = refl
second_rules false false c f = refl

-- ---- within bounds of engine keys

module _ (lower : Bound) (low : List ℕ) (upper : Bound) (high : List ℕ) (last : List ℕ) (bounded : lower ≡ Unbounded → ⊥) (log : List ℕ) (used : ℕ) where
  given_in : (b : Bool) → admits_low Excluded (compare_bytes low (low_bytes Excluded last)) ≡ b
      → up_from upper high (rows_in log used) (pick b (from_rank lower low (rows_in log used)) (from_rank Excluded (low_bytes Excluded last) (rows_in log used)))
      ≡ keep_rows (admitted lower low upper high true (low_bytes Excluded last)) (rows_in log used)
  unfolding inside admitted
  given_in true e =
      up_in upper high lower low log used
      ∙ keep_tests (inside lower low upper high) (admitted lower low upper high true (low_bytes Excluded last))
      (λ k. first_rules (admits_low lower (compare_bytes k low)) (admits_low Excluded (compare_bytes k (low_bytes Excluded last))) (admits_high upper (compare_bytes k high))
      (bound-says low (low_bytes Excluded last) k lower bounded e))
      (rows_in log used)
  given_in false e =
      up_in upper high Excluded (low_bytes Excluded last) log used
      ∙ keep_tests (inside Excluded (low_bytes Excluded last) upper high) (admitted lower low upper high true (low_bytes Excluded last))
      (λ k. second_rules (admits_low lower (compare_bytes k low)) (admits_low Excluded (compare_bytes k (low_bytes Excluded last))) (admits_high upper (compare_bytes k high))
      (last_says low (low_bytes Excluded last) k lower e))
      (rows_in log used)

  past_in : (given : Bool) → past_rows lower low upper high given last (rows_in log used) ≡ keep_rows (admitted lower low upper high given (low_bytes Excluded last)) (rows_in log used)
  unfolding past_rows inside admitted
  past_in true = given_in (admits_low Excluded (compare_bytes low (low_bytes Excluded last))) refl
  past_in false =
      up_in upper high lower low log used
      ∙ keep_tests (inside lower low upper high) (admitted lower low upper high false (low_bytes Excluded last)) (λ k. refl) (rows_in log used)

-- ---- between bounds, and with a prefix

low_bounded : (b : Bound) → low_kind b ≡ Unbounded → ⊥
low_bounded Included e = nope (cc)
low_bounded Excluded e = nope (cc)
low_bounded Unbounded e = nope (cc)

pub scan_agrees : (lower : Bound) (low : List ℕ) (upper : Bound) (high : List ℕ) (given : Bool) (last log t : List ℕ) (m : Mark) → Agreeing log t m
    → scan_rows lower low upper high given last (rows log t m) ≡ keep_rows (scanned lower low upper high given last) (rows_in log m.used.len)
scan_agrees lower low upper high given last log t m g =
    ap (scan_rows lower low upper high given last) (rows_agree log t m g)
    ∙ past_in (low_kind lower) (low_bytes lower low) (high_kind upper) (high_bytes upper high) last (low_bounded lower) log m.used.len given

three_tests : (a l u : Bool) → pick a (pick l u false) false ≡ pick (pick a u false) l false
three_tests true true true = refl
three_tests true true false = refl
three_tests true false true = refl
three_tests true false false = refl
three_tests false l u = refl

-- two tests that are one on bytes keep the same rows of a log
keep-bytes : (log : List ℕ) (p q : List ℕ → Bool) → Bytes log → ((k : List ℕ) → Bytes k → p k ≡ q k) → {rs : List Row} → All (Stands log) rs → keep_rows p rs ≡ keep_rows q rs
unfolding keep_rows
keep-bytes log p q b f all_none = refl
keep-bytes log p q b f (all_more {x = r} w a) =
    rw (f r.key (subst (λ (x : List ℕ). Bytes x) w.key (bytes_take (length r.key) (drop r.at log) (bytes_drop r.at log b))), keep-bytes log p q b f a)

included_bounded : Included ≡ Unbounded → ⊥
included_bounded e = nope (cc)

module _ (p : List ℕ) (given : Bool) (last : List ℕ) where
  abbrev test : List ℕ → Bool
  test = admitted Included (searched p) (end_bound (prefix_end (searched p))) (end_bytes (searched p) (prefix_end (searched p))) given (low_bytes Excluded last)

  prefix_test : (k : List ℕ) → Bytes k → test k ≡ prefixed p given last k
  unfolding admitted prefixed inside
  prefix_test k b =
      let l : Bool = admits_low (last_bound given) (compare_bytes k (low_bytes Excluded last)) in
      three_tests (admits_low Included (compare_bytes k (searched p))) l (admits_high (end_bound (prefix_end (searched p))) (compare_bytes k (end_bytes (searched p) (prefix_end (searched p)))))
      ∙ ap (λ (x : Bool). pick x l false) (sym (begins-inside (searched p) k b))

  pub prefix_agrees : (log t : List ℕ) → Bytes log → (m : Mark) → Agreeing log t m → prefix_rows p given last (rows log t m) ≡ keep_rows (prefixed p given last) (rows_in log m.used.len)
  prefix_agrees log t b m g =
      ap (prefix_rows p given last) (rows_agree log t m g)
      ∙ past_in Included (searched p) (end_bound (prefix_end (searched p))) (end_bytes (searched p) (prefix_end (searched p))) last included_bounded log m.used.len given
      ∙ keep-bytes log test (prefixed p given last) b prefix_test (in_stand log m.used.len)
