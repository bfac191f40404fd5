-- The rows of the keys that begin with a prefix, as the code builds its end, and that under agreement they are those of recovery's rows.
-- Assumes nothing.
use Rattle.std.specs.Prelude.{Some, None, Option}
use Prim.Native.Nat.{ℕ, suc, ◌+◌, ◌≤◌, ◌<◌}
use mathlib.Core.Path.{◌≡◌, refl, sym, ap, ◌∙◌}
use mathlib.Core.Bool.{Bool, true, false}
use mathlib.Core.List.{List, [], ◌∷◌, ◌++◌}
use native.Mathlib.Omega.{arith}
use lib.Dec.{ltb, eqb}
use lib.ListN.{length, take, drop, set, length-append}
use lib.Seq.{take_at, length-take-le}
use borrow.Author.Tests.{eqb-true, eq-eqb}
use Rattle.std.specs.declared.cmp.Ordering.{Ordering}
use Rattle.std.specs.declared.cmp.Ordering.TheVariants.{Less, Equal, Greater}
use Rattle.keycode.specs.Tests.{pick}
use Rattle.keycode.specs.Buffer.{put}
use Rattle.keycode.specs.Order.{compare_bytes, by_order}
use Rattle.keycode.specs.Prefix.{prefix_end, in_front, Under}
use Rattle.keycode.specs.declared.prefix.End.{End}
use Rattle.keycode.proofs.Basics.{nope}
use Rattle.keycode.proofs.BufferLaws.{set-put, put-put, put_front, length-put}
use Rattle.keycode.proofs.NumberLaws.{Bytes, bytes_take, bytes_drop}
use Rattle.keycode.proofs.PrefixLaws.{begins_least, begins_under, range_begins}
use Rattle.bitcask.specs.declared.keydir.slots.Slot.{Slot}
use Rattle.bitcask.specs.keydir.Slots.{key_of}
use Rattle.bitcask.specs.recovery.Recover.{recovered}
use Rattle.bitcask.proofs.recovery.AgreeLaws.{both}
use Rattle.bitcask.specs.declared.answers.Bound.TheVariants.{Included, Excluded, Unbounded}
use Rattle.bitcask.specs.read.Ranks.{admits_low, admits_high}
use Rattle.bitcask.specs.declared.engine.mark.Mark.{Mark}
use Rattle.bitcask.specs.declared.engine.span.Span.{Span}
use Rattle.bitcask.specs.engine.Rows.{Row, rows_of, rows, rows_in}
use Rattle.bitcask.specs.engine.Marks.{Agreeing}
use Rattle.bitcask.specs.engine.Spots.{rank}
use Rattle.bitcask.specs.engine.Ranges.{inside, keep_rows, between, Spans}
use Rattle.bitcask.specs.engine.Prefixes.{begins, end_bound, end_bytes, Prefixes}
use Rattle.bitcask.proofs.engine.RangeLaws.{upto-within, range_agrees, span_range}

-- ---- the end is no longer than the prefix

end_in : (p : List ℕ) (e : End) → prefix_end p ≡ Some e → e.keep < length p
unfolding prefix_end in_front
end_in [] e q = nope (cc)
end_in (x ∷ p) e q = go (prefix_end p) q (λ m f. end_in p m f) refl
  where
    fresh : (b : Bool) → ◌≡◌ {A = Option End} (pick b (Some (record { keep = 0; last = suc x })) None) (Some e) → e.keep < suc (length p)
    fresh true f = let z : ◌≡◌ {A = End} (record { keep = 0; last = suc x }) e = cc in let w : 0 ≡ e.keep = ap (λ (y : End). y.keep) z in omega arith
    fresh false f = nope (cc)

    go : (u : Option End) → in_front x u ≡ Some e → ((m : End) → prefix_end p ≡ Some m → m.keep < length p) → prefix_end p ≡ u → e.keep < suc (length p)
    go (Some m) f ih r = let z : ◌≡◌ {A = End} (record { keep = suc m.keep; last = m.last }) e = cc in let w : suc m.keep ≡ e.keep = ap (λ (y : End). y.keep) z in omega (arith, ih m r)
    go None f ih r = fresh (ltb x 255) f

module _ (p : List ℕ) {u : Option End} (says : u ≡ prefix_end p) where
  pub end_within : (e : End) → u ≡ Some e → e.keep < length p
  end_within e q = end_in p e (sym says ∙ q)

  -- ---- the range by what the end is

  module _ (rs : List Row) {high : List ℕ} {r : Span} where
    pub span_open : u ≡ None → Spans rs Included p Unbounded high r → Prefixes rs p r
    span_open e w = rw (← says, e) (record { from = w.from; to = w.to })

    pub span_raised : (e : End) → u ≡ Some e → high ≡ take e.keep p ++ (e.last ∷ []) → Spans rs Included p Excluded high r
        → Prefixes rs p r
    span_raised e q h w = rw (← says, q) (rw h at w)

-- ---- its bytes in a buffer

module _ (d p : List ℕ) (n l : ℕ) (h : n < length p) (k : length p ≤ length d) {out : List ℕ} (q : out ≡ put d 0 (take n p)) where
  kept : length (take n p) ≡ n
  kept = length-take-le n p (omega arith)

  long : length out ≡ length d
  long = ap length q ∙ length-put d 0 (take n p) (omega (arith, kept))

  both_laid : set out n l ≡ put d 0 (take n p ++ (l ∷ []))
  both_laid =
      let z : n ≡ 0 + length (take n p) = omega (arith, kept) in
      set-put out n l (omega (arith, long))
      ∙ rw q (ap (λ (i : ℕ). put (put d 0 (take n p)) i (l ∷ [])) z ∙ put-put d 0 (take n p) (omega (arith, kept)) (l ∷ []))

  pub raised_bytes : take (n + 1) (set out n l) ≡ take n p ++ (l ∷ [])
  raised_bytes =
      rw (both_laid, put_front d (take n p ++ (l ∷ [])))
      (take_at (take n p ++ (l ∷ [])) (drop (length (take n p ++ (l ∷ []))) d) (n + 1) (length-append (take n p) (l ∷ []) ∙ ap (λ (i : ℕ). i + 1) kept))

-- ---- the keys that begin with a prefix

pub begins-append : (p t : List ℕ) → begins p (p ++ t) ≡ true
unfolding begins
begins-append [] t = refl
begins-append (x ∷ p) t = rw (eq-eqb x x refl) (begins-append p t)

pub begins-split : (p k : List ℕ) → begins p k ≡ true → (t : List ℕ) × (k ≡ p ++ t)
unfolding begins
begins-split [] k e = (k, refl)
begins-split (x ∷ p) [] e = nope (cc)
begins-split (x ∷ p) (y ∷ k) e = go (eqb y x) refl e (λ f. begins-split p k f)
  where
    go : (b : Bool) → eqb y x ≡ b → pick b (begins p k) false ≡ true → (begins p k ≡ true → (t : List ℕ) × (k ≡ p ++ t)) → (t : List ℕ) × (y ∷ k ≡ (x ∷ p) ++ t)
    go true h f ih = let r = ih f in (r.0, λ j. eqb-true y x h j ∷ r.1 j)
    go false h f ih = nope (cc)

abbrev inside_of : List ℕ → List ℕ → Bool
inside_of p k = inside Included p (end_bound (prefix_end p)) (end_bytes p (prefix_end p)) k

low_least : (o : Ordering) → (o ≡ Less → ⊥) → admits_low Included o ≡ true
low_least Less n = absurd (n refl)
low_least Equal n = refl
low_least Greater n = refl

least_low : (o : Ordering) → admits_low Included o ≡ true → o ≡ Less → ⊥
least_low o e l = let z : ◌≡◌ {A = Bool} false true = rw l at e in nope (cc)

high_under : (k p : List ℕ) (u : Option End) → Under k p u → admits_high (end_bound u) (compare_bytes k (end_bytes p u)) ≡ true
high_under k p (Some e) h = rw h
high_under k p None h = refl

under_high : (k p : List ℕ) (u : Option End) → admits_high (end_bound u) (compare_bytes k (end_bytes p u)) ≡ true → Under k p u
under_high k p None q = tt
under_high k p (Some e) q = go (compare_bytes k (take e.keep p ++ (e.last ∷ []))) q
  where
    go : (o : Ordering) → by_order o true false false ≡ true → o ≡ Less
    go Less f = refl
    go Equal f = nope (cc)
    go Greater f = nope (cc)

begins_in : (p t : List ℕ) → inside_of p (p ++ t) ≡ true
unfolding inside
begins_in p t = rw (low_least (compare_bytes (p ++ t) p) (begins_least p t)) (high_under (p ++ t) p (prefix_end p) (begins_under p t))

in_begins : (p k : List ℕ) → Bytes k → inside_of p k ≡ true → begins p k ≡ true
unfolding inside
in_begins p k b e =
    let w = both (admits_low Included (compare_bytes k p)) (admits_high (end_bound (prefix_end p)) (compare_bytes k (end_bytes p (prefix_end p)))) e in
    let r = range_begins p k b (least_low (compare_bytes k p) w.0) (under_high k p (prefix_end p) w.1) in
    ap (begins p) r.1 ∙ begins-append p r.0

pub same_tests : (a b : Bool) → (a ≡ true → b ≡ true) → (b ≡ true → a ≡ true) → a ≡ b
same_tests true b f g = sym (f refl)
same_tests false true f g = g refl
same_tests false false f g = refl

pub begins-inside : (p k : List ℕ) → Bytes k → begins p k ≡ inside Included p (end_bound (prefix_end p)) (end_bytes p (prefix_end p)) k
begins-inside p k b =
    same_tests (begins p k) (inside_of p k) (λ e. let r = begins-split p k e in ap (inside_of p) r.1 ∙ begins_in p r.0) (in_begins p k b)

-- ---- the rows

keep_same : (log : List ℕ) (p q : List ℕ → Bool) → Bytes log → ((k : List ℕ) → Bytes k → p k ≡ q k) → (ss : List Slot) → keep_rows p (rows_of log ss) ≡ keep_rows q (rows_of log ss)
unfolding keep_rows rows_of key_of
keep_same log p q b f [] = refl
keep_same log p q b f (s ∷ ss) =
    rw (f (take s.klen (drop (s.place + 7) log)) (bytes_take s.klen (drop (s.place + 7) log) (bytes_drop (s.place + 7) log b)), keep_same log p q b f ss)

-- a prefix's span ends among the rows
pub prefix_within : (rs : List Row) (p : List ℕ) {r : Span} → Prefixes rs p r → rank r.to rs ≤ length rs
prefix_within rs p w = rw w.to (upto-within (end_bytes p (prefix_end p)) rs (end_bound (prefix_end p)))

-- under agreement its rows are those of recovery whose keys begin with the prefix
pub prefix_agrees : (log t p : List ℕ) (m : Mark) → Bytes log → Agreeing log t m → (r : Span) → Prefixes (rows log t m) p r
    → between r.from r.to (rows log t m) ≡ keep_rows (begins p) (rows_in log m.used.len)
unfolding rows_in
prefix_agrees log t p m b g r w =
    span_range Included p (end_bound (prefix_end p)) (end_bytes p (prefix_end p)) w
    ∙ range_agrees Included p (end_bound (prefix_end p)) (end_bytes p (prefix_end p)) log t m g
    ∙ sym (keep_same log (begins p) (inside_of p) b (begins-inside p) (recovered log m.used.len))
