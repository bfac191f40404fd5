-- The codes of bounds, and the rows between them, by what the code has learnt. Assumes nothing.
use Prim.Native.Nat.{ℕ, ◌+◌, ◌≤◌}
use mathlib.Core.Path.{◌≡◌, refl, sym, ap, ◌∙◌}
use mathlib.Core.Bool.{Bool, true, false}
use mathlib.Core.List.{List, [], ◌∷◌, ◌++◌}
use native.Mathlib.Omega.{arith}
use lib.Dec.{leb}
use lib.ListN.{length, take, set, replicate, length-take, length-set}
use borrow.Author.Tests.{leb-true}
use Rattle.std.specs.Prelude.{Result, Option, None, Some, is_some}
use Rattle.std.specs.Bool.{then_some}
use Rattle.std.specs.Borrow.{Bor}
use Rattle.std.specs.Ordering.{is_gt}
use Rattle.std.specs.declared.cmp.Ordering.{Ordering}
use Rattle.std.specs.declared.cmp.Ordering.TheVariants.{Less, Equal, Greater}
use Rattle.bitcask.specs.declared.answers.KeyValue.{KeyValue}
use Rattle.keycode.specs.declared.refusal.Refusal.{Refusal}
use Rattle.keycode.specs.Tests.{pick}
use Rattle.keycode.specs.Limits.{max_key}
use Rattle.keycode.specs.Order.{compare_bytes}
use Rattle.keycode.specs.Prefix.{searched, prefix_end}
use Rattle.keycode.specs.declared.prefix.End.{End}
use Rattle.keycode.specs.declared.code.Code.{Code}
use Rattle.keycode.specs.code.Codes.{Codes, key_bytes}
use Rattle.bitcask.proofs.recovery.AgreeLaws.{both}
use Rattle.bitcask.specs.declared.answers.Bound.{Bound}
use Rattle.bitcask.specs.declared.answers.Bound.TheVariants.{Included, Excluded, Unbounded}
use Rattle.bitcask.specs.read.Ranks.{admits_low}
use Rattle.bitcask.specs.engine.Rows.{Row}
use Rattle.bitcask.specs.engine.Spots.{from_rank}
use Rattle.bitcask.specs.engine.Prefixes.{end_bound, end_bytes}
use Rattle.mvcc.specs.declared.handle.Handle.{Handle}
use Rattle.mvcc.specs.declared.scan.prefix.Upper.{Upper}
use Rattle.mvcc.specs.walk.Walks.{up_from, step_rows}
use Rattle.mvcc.specs.scan.Bounds.{key_fits, last_fits, last_in, keys_fit, prefix_fits, low_kind, low_bytes, high_kind, high_bytes, start_rank, past_rows, scan_rows, prefix_rows, Uppers}

-- ---- one bound

module _ {b : Bound} (k : List ℕ) where
  pub fits_included : b ≡ Included → key_fits b k ≡ true → length k ≤ max_key
  fits_included e f = leb-true (length k) max_key (ap (λ (x : Bound). key_fits x k) (sym e) ∙ f)

  pub fits_excluded : b ≡ Excluded → key_fits b k ≡ true → length k ≤ max_key
  fits_excluded e f = leb-true (length k) max_key (ap (λ (x : Bound). key_fits x k) (sym e) ∙ f)

  pub low_by : {j : Bound} {r : Code} → b ≡ j → Codes r (low_bytes j k) → Codes r (low_bytes b k)
  low_by e w = rw e w

  pub high_by : {j : Bound} {r : Code} → b ≡ j → Codes r (high_bytes j k) → Codes r (high_bytes b k)
  high_by e w = rw e w

greater_told : (o : Ordering) → is_gt o ≡ admits_low Excluded o
greater_told Less = refl
greater_told Equal = refl
greater_told Greater = refl

-- the end of the Version keys
pub five_code : Codes (record { len = 1; bytes = replicate {A = ℕ} key_bytes 5 }) (5 ∷ [])
five_code = record { whole = refl; within = omega arith; says = refl }

pub code-short : {c : Code} {e : List ℕ} → Codes c e → length (take c.len c.bytes) ≤ key_bytes
code-short {c} w = omega (arith, w.within, length-take c.len c.bytes)

-- ---- where a step starts

module _ {past : Option (Bor (List ℕ))} where
  pub last_fits_lem : (k : Bor (List ℕ)) → past ≡ Some k → last_fits (is_some past) (last_in past) ≡ true → key_fits Excluded k.now ≡ true
  last_fits_lem k q f = ap (λ (x : Option (Bor (List ℕ))). last_fits (is_some x) (last_in x)) (sym q) ∙ f

  module _ (lower : Bound) (low : List ℕ) (rs : List Row) where
    pub start_low : past ≡ None → {n : ℕ} → n ≡ from_rank lower low rs → n ≡ start_rank lower low (is_some past) (last_in past) rs
    start_low q e = e ∙ ap (λ (x : Option (Bor (List ℕ))). start_rank lower low (is_some x) (last_in x) rs) (sym q)

    module _ (k : Bor (List ℕ)) (q : past ≡ Some k) {code : Code} (w : Codes code (low_bytes Excluded k.now)) {o : Ordering} (eo : o ≡ compare_bytes low (take code.len code.bytes))
        {b : Bool} (eb : b ≡ is_gt o) where
      start_by : (v : Bool) → b ≡ v → start_rank lower low (is_some past) (last_in past) rs ≡ pick v (from_rank lower low rs) (from_rank Excluded (low_bytes Excluded k.now) rs)
      start_by v z =
          ap (λ (x : Option (Bor (List ℕ))). start_rank lower low (is_some x) (last_in x) rs) q
          ∙ ap (λ (x : Bool). pick x (from_rank lower low rs) (from_rank Excluded (low_bytes Excluded k.now) rs))
          (ap (λ (x : List ℕ). admits_low Excluded (compare_bytes low x)) (sym w.says) ∙ ap (admits_low Excluded) (sym eo) ∙ sym (greater_told o) ∙ sym eb ∙ z)

      pub start_later : b ≡ true → {n : ℕ} → n ≡ from_rank lower low rs → n ≡ start_rank lower low (is_some past) (last_in past) rs
      start_later z e = e ∙ sym (start_by true z)

      pub start_past : b ≡ false → {n : ℕ} → n ≡ from_rank Excluded (take code.len code.bytes) rs → n ≡ start_rank lower low (is_some past) (last_in past) rs
      start_past z e = e ∙ ap (λ (x : List ℕ). from_rank Excluded x rs) w.says ∙ sym (start_by false z)

-- a last key by a flag beside it, as the calls are handed it
module _ (given : Bool) (k : Bor (List ℕ)) {past : Option (Bor (List ℕ))} (e : past ≡ then_some given k) where
  flag-fits : last_fits (is_some past) (last_in past) ≡ last_fits given k.now
  flag-fits = rw e (go given)
    where
      go : (b : Bool) → last_fits (is_some (then_some b k)) (last_in (then_some b k)) ≡ last_fits b k.now
      go true = refl
      go false = refl

  pub flag_keys : (lower : Bound) (low : List ℕ) (upper : Bound) (high : List ℕ) → keys_fit lower low upper high (is_some past) (last_in past) ≡ keys_fit lower low upper high given k.now
  flag_keys lower low upper high = ap (λ (b : Bool). pick (key_fits lower low) (pick (key_fits upper high) b false) false) flag-fits

  pub flag_prefix : (p : List ℕ) → prefix_fits p (is_some past) (last_in past) ≡ prefix_fits p given k.now
  flag_prefix p = ap (λ (b : Bool). pick (leb (length p) max_key) b false) flag-fits

  pub flag_rows : (lower : Bound) (low : List ℕ) (upper : Bound) (high : List ℕ) (rs : List Row) → past_rows lower low upper high (is_some past) (last_in past) rs ≡ past_rows lower low upper high given k.now rs
  unfolding past_rows
  flag_rows lower low upper high rs = rw e (go given)
    where
      go : (b : Bool) → up_from upper high rs (start_rank lower low (is_some (then_some b k)) (last_in (then_some b k)) rs) ≡ up_from upper high rs (start_rank lower low b k.now rs)
      go true = refl
      go false = refl

-- ---- all of them

module _ (lower : Bound) (low : List ℕ) (upper : Bound) (high : List ℕ) (given : Bool) (last : List ℕ) (f : keys_fit lower low upper high given last ≡ true) where
  others : (key_fits upper high ≡ true) × (last_fits given last ≡ true)
  others = both (key_fits upper high) (last_fits given last) (both (key_fits lower low) (pick (key_fits upper high) (last_fits given last) false) f).1

  pub keys_low : key_fits lower low ≡ true
  keys_low = (both (key_fits lower low) (pick (key_fits upper high) (last_fits given last) false) f).0

  pub keys_high : key_fits upper high ≡ true
  keys_high = others.0

  pub keys_last : last_fits given last ≡ true
  keys_last = others.1

module _ (p : List ℕ) (given : Bool) (last : List ℕ) (f : prefix_fits p given last ≡ true) where
  pub prefix_short : length p ≤ max_key
  prefix_short = leb-true (length p) max_key (both (leb (length p) max_key) (last_fits given last) f).0

  pub prefix_last : last_fits given last ≡ true
  prefix_last = (both (leb (length p) max_key) (last_fits given last) f).1

module _ (h : Handle) (log : List ℕ) (rs : List Row) (given : Bool) (last : List ℕ) where
  pub past_by : (lower : Bound) (low : List ℕ) (upper : Bound) (high : List ℕ) {n : ℕ} {r : Result KeyValue Refusal} → n ≡ start_rank lower low given last rs → r ≡ step_rows h log (up_from upper high rs n)
      → r ≡ step_rows h log (past_rows lower low upper high given last rs)
  unfolding past_rows
  past_by lower low upper high en er = er ∙ ap (λ (k : ℕ). step_rows h log (up_from upper high rs k)) en

  pub between_by : (lower : Bound) (low : List ℕ) (upper : Bound) (high : List ℕ) {a b : Code} {x y : Bound} {r : Result KeyValue Refusal} → Codes a (low_bytes lower low) → Codes b (high_bytes upper high)
      → x ≡ low_kind lower → y ≡ high_kind upper → r ≡ step_rows h log (past_rows x (take a.len a.bytes) y (take b.len b.bytes) given last rs) → r ≡ step_rows h log (scan_rows lower low upper high given last rs)
  between_by lower low upper high wa wb ex ey er = er ∙ (λ j. step_rows h log (past_rows (ex j) (wa.says j) (ey j) (wb.says j) given last rs))

  pub begun_by_lem : (p : List ℕ) {c : Code} {u : Upper} {r : Result KeyValue Refusal} → Codes c (searched p) → Uppers (take c.len c.bytes) u
      → r ≡ step_rows h log (past_rows Included (take c.len c.bytes) u.bound (take u.code.len u.code.bytes) given last rs) → r ≡ step_rows h log (prefix_rows p given last rs)
  begun_by_lem p {c} w z er =
      er ∙ (λ j. step_rows h log (past_rows Included (take c.len c.bytes) (z.bound j) (z.code.says j) given last rs))
      ∙ ap (λ (x : List ℕ). step_rows h log (past_rows Included x (end_bound (prefix_end x)) (end_bytes x (prefix_end x)) given last rs)) w.says

-- ---- the end of a prefix

module _ (p : List ℕ) {u : Option End} (says : u ≡ prefix_end p) (d : List ℕ) (whole : length d ≡ key_bytes) where
  pub upper_open : u ≡ None → Uppers p (record { bound = Unbounded; code = record { len = 0; bytes = d } })
  upper_open e =
      let q : ◌≡◌ {A = Option End} None (prefix_end p) = sym e ∙ says in
      record { bound = ap end_bound q; code = record { whole = whole; within = omega arith; says = ap (end_bytes p) q } }

  pub upper_raised : (e : End) → u ≡ Some e → e.keep + 1 ≤ key_bytes → take (e.keep + 1) (set d e.keep e.last) ≡ take e.keep p ++ (e.last ∷ [])
      → Uppers p (record { bound = Excluded; code = record { len = e.keep + 1; bytes = set d e.keep e.last } })
  upper_raised e o h k =
      let q : ◌≡◌ {A = Option End} (Some e) (prefix_end p) = sym o ∙ says in
      record { bound = ap end_bound q; code = record { whole = length-set d e.keep e.last ∙ whole; within = h; says = k ∙ ap (end_bytes p) q } }
