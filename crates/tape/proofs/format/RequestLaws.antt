-- Laws of a record as a request: what each test of the code answers, and that a record is proper exactly where it is the layout of
-- fields within its command's limits. Assumes nothing.
use Prim.Native.Nat.{ℕ, zero, suc, ◌+◌, ◌-◌, ◌^◌, ◌≤◌, ◌<◌}
use mathlib.Core.Path.{◌≡◌, refl, sym, ap, ◌∙◌}
use mathlib.Core.Bool.{Bool, true, false, not}
use mathlib.Core.List.{List, [], ◌∷◌, ◌++◌, append-nil}
use native.Mathlib.Omega.{arith}
use lib.Dec.{eqb, leb}
use lib.ListN.{length, take, drop, get_or, drop_of_length-le, length-take, length-drop, take-append-drop}
use lib.Seq.{drop-drop, take_all, take_at, take-add, length-take-le}
use borrow.Author.Tests.{le-leb, lt-leb, leb-true, eqb-true, eq-eqb, ne_eqb, not-true, not-false}
use Rattle.std.specs.List.{list_all}
use Rattle.std.specs.Prelude.{◌&&◌}
use Rattle.keycode.specs.Tests.{pick}
use Rattle.keycode.specs.Number.{be, num}
use Rattle.keycode.proofs.NumberLaws.{Bytes, bytes_take, bytes_drop, length-be, num_any, be-num}
use Rattle.tape.specs.declared.format.request.Request.{Request}
use Rattle.tape.specs.format.Layout.{record_len, key_at, value_at, key_room, value_room, zeros, padded, laid}
use Rattle.tape.specs.format.Requests.{fields_of, between, slot_most, key_most, value_most, version_most, key_in, value_in, modest, all_zero, cleared, proper}
use Rattle.tape.proofs.format.LayoutLaws.{behind-key, behind-value}

pub fields_read : (r : List ℕ) {b k v n : ℕ} → b ≡ get_or r 1 0 → k ≡ get_or r 2 0 → v ≡ get_or r 3 0 → n ≡ num (take 8 (drop 4 r))
    → record { command = get_or r 0 0; slot = b; klen = k; vlen = v; version = n } ≡ fields_of r
unfolding fields_of
fields_read r e f g h = λ j. record { command = get_or r 0 0; slot = e j; klen = f j; vlen = g j; version = h j }

-- ---- what a command uses

module _ (low high c : ℕ) where
  pub between-below : c < low → leb low c ≡ between low high c
  unfolding between
  between-below h = rw (lt-leb low c h)

  pub between-from : low ≤ c → leb c high ≡ between low high c
  unfolding between
  between-from h = rw (le-leb low c h)

module _ (c : ℕ) where
  pub slot-used : c ≤ 9 → 15 ≡ slot_most c
  unfolding slot_most
  slot-used h = rw (le-leb c 9 h)

  pub slot_unused : 9 < c → 0 ≡ slot_most c
  unfolding slot_most
  slot_unused h = rw (lt-leb c 9 h)

  module _ {b : Bool} (e : b ≡ between 4 7 c) where
    pub key-used : b ≡ true → key_room ≡ key_most c
    unfolding key_most
    key-used h = rw (← e, h)

    pub key_unused : b ≡ false → 0 ≡ key_most c
    unfolding key_most
    key_unused h = rw (← e, h)

  pub value-used : c ≡ 5 → value_room ≡ value_most c
  unfolding value_most
  value-used h = rw (eq-eqb c 5 h)

  pub value_unused : (c ≡ 5 → ⊥) → 0 ≡ value_most c
  unfolding value_most
  value_unused h = rw (ne_eqb c 5 h)

  pub version-used : c ≡ 3 → 2 ^ 64 - 1 ≡ version_most c
  unfolding version_most
  version-used h = rw (eq-eqb c 3 h)

  pub version_unused : (c ≡ 3 → ⊥) → 0 ≡ version_most c
  unfolding version_most
  version_unused h = rw (ne_eqb c 3 h)

-- ---- each field as large as the command lets it be

module _ (q : Request) {b : Bool} (eb : b ≡ between 1 11 q.command) where
  pub modest_unknown : not b ≡ true → false ≡ modest q
  unfolding modest
  modest_unknown h = rw (← eb, not-true b h)

  module _ (hb : not b ≡ false) {s : ℕ} (es : s ≡ slot_most q.command) where
    pub modest-slot : s < q.slot → false ≡ modest q
    unfolding modest
    modest-slot h = rw (← eb, not-false b hb, ← es, lt-leb q.slot s h)

    module _ (hs : q.slot ≤ s) {k : ℕ} (ek : k ≡ key_most q.command) where
      pub modest-key : k < q.klen → false ≡ modest q
      unfolding modest
      modest-key h = rw (← eb, not-false b hb, ← es, le-leb q.slot s hs, ← ek, lt-leb q.klen k h)

      module _ (hk : q.klen ≤ k) {v : ℕ} (ev : v ≡ value_most q.command) where
        pub modest-value : v < q.vlen → false ≡ modest q
        unfolding modest
        modest-value h = rw (← eb, not-false b hb, ← es, le-leb q.slot s hs, ← ek, le-leb q.klen k hk, ← ev, lt-leb q.vlen v h)

        pub modest-version : q.vlen ≤ v → {n : ℕ} → n ≡ version_most q.command → leb q.version n ≡ modest q
        unfolding modest
        modest-version h en = rw (← eb, not-false b hb, ← es, le-leb q.slot s hs, ← ek, le-leb q.klen k hk, ← ev, le-leb q.vlen v h, en)

-- ---- zeros

and_pick : (b : Bool) {p q : Bool} → p ≡ q → (b && p) ≡ pick b q false
and_pick true e = e
and_pick false e = refl

pub zeros-all : (xs : List ℕ) → list_all (λ (x : ℕ). eqb x 0) xs ≡ all_zero xs
unfolding all_zero
zeros-all [] = refl
zeros-all (x ∷ xs) = and_pick (eqb x 0) (zeros-all xs)

module _ (r : List ℕ) (klen vlen : ℕ) {b : Bool} (e : b ≡ all_zero (take (value_at - (key_at + klen)) (drop (key_at + klen) r))) where
  pub cleared_not : b ≡ false → b ≡ cleared r klen vlen
  unfolding cleared
  cleared_not h = h ∙ rw (← e, h)

  pub cleared-so : b ≡ true → {z : Bool} → z ≡ all_zero (take (length r - (value_at + vlen)) (drop (value_at + vlen) r)) → z ≡ cleared r klen vlen
  unfolding cleared
  cleared-so h f =
      f
      ∙ ap all_zero (take_all (length r - (value_at + vlen)) (drop (value_at + vlen) r) (simp length-drop (omega arith)))
      ∙ rw (← e, h)

-- ---- the whole test

both : (a b : Bool) → pick a b false ≡ true → (a ≡ true) × (b ≡ true)
both true b e = (refl, e)
both false b e = let z : ◌≡◌ {A = ℕ} 0 1 = cc in absurd (omega arith)

key_most_room : (c : ℕ) → key_most c ≤ key_room
unfolding key_most
key_most_room c = go (between 4 7 c)
  where
    go : (b : Bool) → pick b key_room 0 ≤ key_room
    go true = omega arith
    go false = omega arith

value_most_room : (c : ℕ) → value_most c ≤ value_room
unfolding value_most
value_most_room c = go (eqb c 5)
  where
    go : (b : Bool) → pick b value_room 0 ≤ value_room
    go true = omega arith
    go false = omega arith

-- key and value have room
pub modest_rooms : (q : Request) → modest q ≡ true → (q.klen ≤ key_room) × (q.vlen ≤ value_room)
unfolding modest
modest_rooms q h =
    let c = q.command in
    let k = both (leb q.klen (key_most c)) _ (both (leb q.slot (slot_most c)) _ (both (between 1 11 c) _ h).1).1 in
    let v = both (leb q.vlen (value_most c)) _ k.1 in
    (omega (arith, leb-true q.klen (key_most c) k.0, key_most_room c), omega (arith, leb-true q.vlen (value_most c) v.0, value_most_room c))

module _ (r : List ℕ) {q : Request} {b : Bool} (e : q ≡ fields_of r) (f : b ≡ modest q) where
  pub proper_not : b ≡ false → b ≡ proper r
  unfolding proper
  proper_not h = h ∙ rw (← e, ← f, h)

  pub proper-so : b ≡ true → {z : Bool} → z ≡ cleared r q.klen q.vlen → z ≡ proper r
  unfolding proper
  proper-so h g = g ∙ rw (← e, ← f, h)

-- ---- proper is what document 01 lays out

zeros-zero : (n : ℕ) → all_zero (zeros n) ≡ true
unfolding all_zero
zeros-zero zero = refl
zeros-zero (suc n) = zeros-zero n

zero-zeros : (xs : List ℕ) → all_zero xs ≡ true → xs ≡ zeros (length xs)
unfolding all_zero
zero-zeros [] e = refl
zero-zeros (x ∷ xs) e = let p = both (eqb x 0) (all_zero xs) e in rw (eqb-true x 0 p.0) (ap (λ (l : List ℕ). 0 ∷ l) (zero-zeros xs p.1))

-- the layout of fields within the command's limits is proper
module _ (c s w : ℕ) (key value : List ℕ) (m : modest (record { command = c; slot = s; klen = length key; vlen = length value; version = w }) ≡ true) where
  fields_laid : fields_of (laid c s w key value) ≡ record { command = c; slot = s; klen = length key; vlen = length value; version = w }
  unfolding fields_of laid
  fields_laid =
      let e : num (take 8 (be 8 w ++ (padded key_room key ++ padded value_room value))) ≡ w =
      ap num (take_at (be 8 w) (padded key_room key ++ padded value_room value) 8 (length-be 8 w)) ∙ num_any 7 w in
      λ j. record { command = c; slot = s; klen = length key; vlen = length value; version = e j }

  pub laid-proper : proper (laid c s w key value) ≡ true
  unfolding proper cleared
  laid-proper =
      let k = (modest_rooms (record { command = c; slot = s; klen = length key; vlen = length value; version = w }) m).0 in
      rw (fields_laid, m, behind-key c s w key value k, zeros-zero (key_room - length key), behind-value c s w key value k)
      (zeros-zero (value_room - length value))

-- a run with zeros behind it
run-padded : (t : List ℕ) (n room : ℕ) → n ≤ room → room ≤ length t → all_zero (take (room - n) (drop n t)) ≡ true → t ≡ padded room (take n t) ++ drop room t
unfolding padded
run-padded t n room h k e =
    let l : length (take n t) ≡ n = length-take-le n t (omega arith) in
    let m : length (take (room - n) (drop n t)) ≡ room - n = simp (length-take, length-drop) (omega arith) in
    let z : take (room - n) (drop n t) ≡ zeros (room - n) = zero-zeros (take (room - n) (drop n t)) e ∙ ap zeros m in
    let q : n + (room - n) ≡ room = omega arith in
    let a : take room t ≡ take n t ++ take (room - n) (drop n t) = ap (λ (x : ℕ). take x t) (sym q) ∙ take-add n (room - n) t in
    sym (take-append-drop room t) ∙ rw (a, z, l)

four_first : (r : List ℕ) → 4 ≤ length r → r ≡ get_or r 0 0 ∷ get_or r 1 0 ∷ get_or r 2 0 ∷ get_or r 3 0 ∷ drop 4 r
four_first [] h = absurd (omega arith)
four_first (a ∷ []) h = absurd (omega arith)
four_first (a ∷ b ∷ []) h = absurd (omega arith)
four_first (a ∷ b ∷ c ∷ []) h = absurd (omega arith)
four_first (a ∷ b ∷ c ∷ d ∷ r) h = refl

-- a proper record is the layout of its own fields
module _ (r : List ℕ) (ok : proper r ≡ true) (long : length r ≡ record_len) (bytes : Bytes r) where
  proper_rooms : ((fields_of r).klen ≤ key_room) × ((fields_of r).vlen ≤ value_room)
  unfolding proper
  proper_rooms = modest_rooms (fields_of r) (both (modest (fields_of r)) _ ok).0

  proper-cleared : cleared r (fields_of r).klen (fields_of r).vlen ≡ true
  unfolding proper
  proper-cleared = (both (modest (fields_of r)) _ ok).1

  number_part : drop 4 r ≡ be 8 (fields_of r).version ++ drop key_at r
  unfolding fields_of
  number_part =
      let x = take 8 (drop 4 r) in
      let l : length x ≡ 8 = simp (length-take, length-drop) (omega arith) in
      let e : be 8 (num x) ≡ x = ap (λ (k : ℕ). be k (num x)) (sym l) ∙ be-num x (bytes_take 8 (drop 4 r) (bytes_drop 4 r bytes)) in
      sym (take-append-drop 8 (drop 4 r)) ∙ rw (e, drop-drop 8 4 r)

  key_part_lem : drop key_at r ≡ padded key_room (key_in r) ++ drop value_at r
  unfolding key_in cleared
  key_part_lem =
      let k = (fields_of r).klen in
      let n : value_at - (key_at + k) ≡ key_room - k = omega arith in
      let z = (both (all_zero (take (value_at - (key_at + k)) (drop (key_at + k) r))) _ proper-cleared).0 in
      run-padded (drop key_at r) k key_room proper_rooms.0 (simp length-drop (omega arith)) (rw (drop-drop k key_at r) (rw n at z))
      ∙ rw (drop-drop key_room key_at r)

  value_part_lem : drop value_at r ≡ padded value_room (value_in r)
  unfolding value_in cleared
  value_part_lem =
      let k = (fields_of r).klen in
      let v = (fields_of r).vlen in
      let z = (both (all_zero (take (value_at - (key_at + k)) (drop (key_at + k) r))) _ proper-cleared).1 in
      let t : take (value_room - v) (drop (value_at + v) r) ≡ drop (value_at + v) r = take_all (value_room - v) (drop (value_at + v) r) (simp length-drop (omega arith)) in
      run-padded (drop value_at r) v value_room proper_rooms.1 (simp length-drop (omega arith)) (rw (drop-drop v value_at r, t) z)
      ∙ rw (drop-drop value_room value_at r, drop_of_length-le r {i = record_len} (omega arith)) (append-nil (padded value_room (value_in r)))

  key-long : length (key_in r) ≡ get_or r 2 0
  unfolding key_in fields_of
  key-long = length-take-le (get_or r 2 0) (drop key_at r) (simp length-drop (omega (arith, proper_rooms.0)))

  value-long : length (value_in r) ≡ get_or r 3 0
  unfolding value_in fields_of
  value-long = length-take-le (get_or r 3 0) (drop value_at r) (simp length-drop (omega (arith, proper_rooms.1)))

  parts_laid : get_or r 0 0 ∷ get_or r 1 0 ∷ get_or r 2 0 ∷ get_or r 3 0 ∷ (be 8 (fields_of r).version ++ (padded key_room (key_in r) ++ padded value_room (value_in r)))
      ≡ laid (fields_of r).command (fields_of r).slot (fields_of r).version (key_in r) (value_in r)
  unfolding laid fields_of
  parts_laid = rw (key-long, value-long)

  pub proper-laid : r ≡ laid (fields_of r).command (fields_of r).slot (fields_of r).version (key_in r) (value_in r)
  proper-laid = four_first r (omega arith) ∙ rw (number_part, key_part_lem, value_part_lem) parts_laid
