-- Decoding undoes encoding and encoding undoes decoding, for user keys of every length and under every limit; no encoding begins
-- another, across all six kinds. Assumes nothing.
use Prim.Native.Nat.{ℕ, zero, suc, ◌+◌, ◌-◌, ◌^◌, ◌≤◌, ◌<◌}
use mathlib.Core.Path.{◌≡◌, refl, sym, ap, subst, ◌∙◌}
use mathlib.Core.Bool.{Bool, true, false}
use mathlib.Core.List.{List, [], ◌∷◌, ◌++◌, append_assoc, append-nil}
use native.Mathlib.Omega.{arith}
use lib.ListN.{length, take, drop, get_or, length-append, length-drop, take-append-drop}
use lib.Seq.{take_at, drop_at, take_all, length-take-le}
use lib.Dec.{leb}
use borrow.Author.Tests.{le-leb, leb-true}
use Rattle.std.specs.Prelude.{Result, Ok, Err, ℕ}
use Rattle.keycode.specs.declared.strings.Fault.{Fault}
use Rattle.keycode.specs.declared.key.Key.{Key}
use Rattle.keycode.specs.declared.key.Key.TheVariants.{NextVersion, TxnActive, TxnActiveSnapshot}
use Rattle.keycode.specs.declared.strings.Reason.TheVariants.{TooFew, LeftOver}
use Rattle.keycode.specs.Tests.{pick}
use Rattle.keycode.specs.Number.{be, num}
use Rattle.keycode.specs.Strings.{escape_body, escape, unescaped, scanned, fault}
use Rattle.keycode.specs.key.Keys.{Fields, next_version, txn_active, txn_active_snapshot, txn_write, version, unversioned, encode, user_key, exactly, string_at, on_ended, key_of, decode_why, fields_of, placed}
use Rattle.keycode.proofs.Basics.{nope}
use Rattle.keycode.proofs.NumberLaws.{num-be, num_any, be-num, length-be, Bytes, bytes_take, bytes_drop}
use Rattle.keycode.proofs.StringLaws.{escape-length, unescaped_body, scanned_body, scan_found, plain_byte}
use Rattle.keycode.proofs.key.DecodeLaws.{exactly_read}

-- its versions are u64
abbrev pub Sound : Fields → Type 0
Sound next_version = Unit {0}
Sound (txn_active v) = v < 256 ^ 8
Sound (txn_active_snapshot v) = v < 256 ^ 8
Sound (txn_write v s) = v < 256 ^ 8
Sound (version s v) = v < 256 ^ 8
Sound (unversioned s) = Unit {0}

-- ---- what was encoded is what is decoded again

-- eight bytes with more behind them
eight : (v : ℕ) (t : List ℕ) → v < 256 ^ 8 → num (take 8 (be 8 v ++ t)) ≡ v
eight v t h = rw (take_at (be 8 v) t 8 (length-be 8 v)) (num-be 8 v h)

eight_alone : (v : ℕ) → v < 256 ^ 8 → num (take 8 (be 8 v)) ≡ v
eight_alone v h = rw (take_all 8 (be 8 v) (omega (arith, length-be 8 v))) (num-be 8 v h)

-- a string behind other bytes, with more behind it
string_ended : (limit : ℕ) (p s t : List ℕ) → length s ≤ limit → string_at limit (length p) (p ++ (escape s ++ t)) ≡ Ok (length p + length (escape_body s))
unfolding string_at escape
string_ended limit p s t h =
    let l : length p ≤ length (p ++ (escape_body s ++ (0 ∷ 0 ∷ []) ++ t)) = simp length-append (omega arith) in
    rw (le-leb (length p) (length (p ++ (escape_body s ++ (0 ∷ 0 ∷ []) ++ t))) l, drop_at p (escape_body s ++ (0 ∷ 0 ∷ []) ++ t) (length p) refl, append_assoc)
    (scanned_body s t limit (length p) h)

exactly-same : (n l : ℕ) (k j : Key) → n ≡ l → k ≡ j → exactly n l k ≡ Ok j
exactly-same n l k j e f = sym (exactly_read n l k (omega arith) (omega arith)) ∙ ap Ok f

write_decoded : (limit v : ℕ) (s : List ℕ) → v < 256 ^ 8 → length s ≤ limit → key_of limit 3 (encode (txn_write v s)) ≡ Ok (placed (txn_write v s))
unfolding key_of on_ended
write_decoded limit v s h g =
    let n = length (escape_body s) in
    let l : length (3 ∷ be 8 v) ≡ 9 = ap suc (length-be 8 v) in
    let e : string_at limit 9 (3 ∷ be 8 v ++ escape s) ≡ Ok (9 + n) = rw (l, append-nil) at (string_ended limit (3 ∷ be 8 v) s [] g) in
    let f : 9 + n - 9 ≡ n = omega arith in
    rw e (exactly-same _ _ _ _ (simp length-append (omega (arith, length-be 8 v, escape-length s))) (rw (eight v (escape s) h, f)))

version_decoded : (limit v : ℕ) (s : List ℕ) → v < 256 ^ 8 → length s ≤ limit → key_of limit 4 (encode (version s v)) ≡ Ok (placed (version s v))
unfolding key_of on_ended
version_decoded limit v s h g =
    let n = length (escape_body s) in
    let e : string_at limit 1 (4 ∷ escape s ++ be 8 v) ≡ Ok (1 + n) = string_ended limit (4 ∷ []) s (be 8 v) g in
    let f : 1 + n - 1 ≡ n = omega arith in
    let d : drop (1 + n + 2) (4 ∷ escape s ++ be 8 v) ≡ be 8 v = drop_at (4 ∷ escape s) (be 8 v) (1 + n + 2) (omega (arith, escape-length s)) in
    rw e (exactly-same _ _ _ _ (simp length-append (omega (arith, length-be 8 v, escape-length s))) (rw (d, eight_alone v h, f)))

unversioned_decoded : (limit : ℕ) (s : List ℕ) → length s ≤ limit → key_of limit 5 (encode (unversioned s)) ≡ Ok (placed (unversioned s))
unfolding key_of on_ended
unversioned_decoded limit s g =
    let n = length (escape_body s) in
    let e : string_at limit 1 (5 ∷ escape s) ≡ Ok (1 + n) = rw append-nil at (string_ended limit (5 ∷ []) s [] g) in
    let f : 1 + n - 1 ≡ n = omega arith in
    rw e (exactly-same _ _ _ _ (omega (arith, escape-length s)) (rw f))

pub decode_encode : (limit : ℕ) (k : Fields) → Sound k → length (user_key k) ≤ limit → decode_why limit (encode k) ≡ Ok (placed k)
unfolding decode_why
decode_encode limit next_version h g = unfold key_of exactly in refl
decode_encode limit (txn_active v) h g = unfold key_of in exactly-same _ _ _ _ (omega (arith, length-be 8 v)) (ap TxnActive (eight_alone v h))
decode_encode limit (txn_active_snapshot v) h g = unfold key_of in exactly-same _ _ _ _ (omega (arith, length-be 8 v)) (ap TxnActiveSnapshot (eight_alone v h))
decode_encode limit (txn_write v s) h g = write_decoded limit v s h g
decode_encode limit (version s v) h g = version_decoded limit v s h g
decode_encode limit (unversioned s) h g = unversioned_decoded limit s g

-- the decoded key's part is the string's escaped bytes
part_of : (p s t : List ℕ) → unescaped (take (length (escape_body s)) (drop (length p) (p ++ (escape s ++ t)))) ≡ s
unfolding escape
part_of p s t =
    rw (drop_at p (escape_body s ++ (0 ∷ 0 ∷ []) ++ t) (length p) refl, append_assoc, take_at (escape_body s) (0 ∷ 0 ∷ t) (length (escape_body s)) refl)
    (unescaped_body s).0

pub fields_placed : (k : Fields) → fields_of (encode k) (placed k) ≡ k
fields_placed next_version = refl
fields_placed (txn_active v) = refl
fields_placed (txn_active_snapshot v) = refl
fields_placed (txn_write v s) =
    let l : length (3 ∷ be 8 v) ≡ 9 = ap suc (length-be 8 v) in
    ap (txn_write v) (rw (l, append-nil) at (part_of (3 ∷ be 8 v) s []))
fields_placed (version s v) = ap (λ (r : List ℕ). version r v) (part_of (4 ∷ []) s (be 8 v))
fields_placed (unversioned s) = ap unversioned (rw append-nil at (part_of (5 ∷ []) s []))

-- ---- what was decoded is what is encoded again

exactly-says : (n l : ℕ) (k j : Key) → exactly n l k ≡ Ok j → (n ≡ l) × (k ≡ j)
unfolding exactly
exactly-says n l k j = go (leb n l) refl (leb l n) refl
  where
    go : (a : Bool) → leb n l ≡ a → (b : Bool) → leb l n ≡ b → pick a (pick b (Ok k) (Err (fault LeftOver n))) (Err (fault TooFew l)) ≡ Ok j → (n ≡ l) × (k ≡ j)
    go true p true q e = (omega (arith, leb-true n l p, leb-true l n q), cc)
    go true p false q e = nope (cc)
    go false p b q e = nope (cc)

ended-says : (got : Result ℕ Fault) (f : ℕ → Result Key Fault) (k : Key) → on_ended got f ≡ Ok k → (i : ℕ) × (got ≡ Ok i) × (f i ≡ Ok k)
unfolding on_ended
ended-says (Ok i) f k e = (i, refl, e)
ended-says (Err w) f k e = nope (cc)

-- a string that ends at index i: its bytes, and those behind its end
pub record Stringed (limit at i : ℕ) (b : List ℕ) : Type 0 where
  pub string : List ℕ
  pub rest : List ℕ
  pub here : drop at b ≡ escape string ++ rest
  pub ends : i ≡ at + length (escape_body string)
  pub few : length string ≤ limit
  pub whole : length b ≡ i + 2 + length rest

stringed : (limit at i : ℕ) (b : List ℕ) → string_at limit at b ≡ Ok i → Stringed limit at i b
unfolding string_at escape
stringed limit at i b = go (leb at (length b)) refl
  where
    go : (t : Bool) → leb at (length b) ≡ t → pick t (scanned limit at (drop at b)) (Err (fault TooFew (length b))) ≡ Ok i → Stringed limit at i b
    go true h p =
        let q = scan_found limit at i (drop at b) p in
        let l : length (drop at b) ≡ length (escape_body q.string) + suc (suc (length q.rest)) = ap length q.here ∙ length-append (escape_body q.string) (0 ∷ 0 ∷ q.rest) in
        record {
          string = q.string;
          rest = q.rest;
          here = q.here ∙ sym (append_assoc (escape_body q.string) (0 ∷ 0 ∷ []) q.rest);
          ends = q.ends;
          few = q.few;
          whole = omega (arith, q.ends, length-drop at b, leb-true at (length b) h);
        }
    go false h p = nope (cc)

none : (r : List ℕ) → length r ≡ 0 → r ≡ []
none [] h = refl
none (x ∷ r) h = absurd (omega arith)

-- eight bytes and the number that they are
eight_back : (r : List ℕ) → Bytes r → 8 ≤ length r → be 8 (num (take 8 r)) ≡ take 8 r
eight_back r b h = rw (length-take-le 8 r h) at (be-num (take 8 r) (bytes_take 8 r b))

eight_whole : (r : List ℕ) → Bytes r → length r ≡ 8 → be 8 (num (take 8 r)) ≡ r
eight_whole r b h = eight_back r b (omega arith) ∙ take_all 8 r (omega arith)

-- the string that a part of the key names, by what stands there
named : {limit at i : ℕ} {b : List ℕ} (q : Stringed limit at i b) → unescaped (take (i - at) (drop at b)) ≡ q.string
unfolding escape
named {limit} {at} {i} {b} q =
    let e : i - at ≡ length (escape_body q.string) = omega (arith, q.ends) in
    rw (q.here, append_assoc, e, take_at (escape_body q.string) (0 ∷ 0 ∷ q.rest) (length (escape_body q.string)) refl)
    (unescaped_body q.string).0

-- what decoding promises of bytes b: the fields encode to them again, and the user key is within the limit
pub record Encoded (limit : ℕ) (b : List ℕ) (k : Fields) : Type 0 where
  pub bytes : encode k ≡ b
  pub few : length (user_key k) ≤ limit

write_back : (limit : ℕ) (r : List ℕ) (k : Key) → Bytes r → key_of limit 3 (3 ∷ r) ≡ Ok k → Encoded limit (3 ∷ r) (fields_of (3 ∷ r) k)
unfolding key_of
write_back limit r k y e =
    let u = ended-says (string_at limit 9 (3 ∷ r)) _ k e in
    let x = exactly-says _ _ _ _ u.2 in
    let q = stringed limit 9 u.0 (3 ∷ r) u.1 in
    rw (← x.1) (record { bytes = go q x.0; few = rw (named q) q.few })
  where
    go : {i : ℕ} (q : Stringed limit 9 i (3 ∷ r)) → i + 2 ≡ length (3 ∷ r) → 3 ∷ be 8 (num (take 8 r)) ++ escape (unescaped (take (i - 9) (drop 8 r))) ≡ 3 ∷ r
    go q h =
        let z : q.rest ≡ [] = none q.rest (omega (arith, q.whole)) in
        let d : escape q.string ≡ drop 8 r = sym (q.here ∙ rw (z, append-nil)) in
        rw (named q, d, eight_back r y (omega (arith, q.ends))) (ap (λ (t : List ℕ). 3 ∷ t) (take-append-drop 8 r))

version-back : (limit : ℕ) (r : List ℕ) (k : Key) → Bytes r → key_of limit 4 (4 ∷ r) ≡ Ok k → Encoded limit (4 ∷ r) (fields_of (4 ∷ r) k)
unfolding key_of
version-back limit r k y e =
    let u = ended-says (string_at limit 1 (4 ∷ r)) _ k e in
    let x = exactly-says _ _ _ _ u.2 in
    let q = stringed limit 1 u.0 (4 ∷ r) u.1 in
    rw (← x.1) (record { bytes = go q x.0; few = rw (named q) q.few })
  where
    go : {i : ℕ} (q : Stringed limit 1 i (4 ∷ r)) → i + 10 ≡ length (4 ∷ r) → 4 ∷ escape (unescaped (take (i - 1) r)) ++ be 8 (num (take 8 (drop (i + 2) (4 ∷ r)))) ≡ 4 ∷ r
    go {i} q h =
        let d : drop (i + 2) (4 ∷ r) ≡ q.rest = ap (λ (t : List ℕ). drop (i + 2) (4 ∷ t)) q.here ∙ drop_at (4 ∷ escape q.string) q.rest (i + 2) (omega (arith, escape-length q.string, q.ends)) in
        let b : Bytes q.rest = subst (λ (t : List ℕ). Bytes t) d (bytes_drop (i + 2) (4 ∷ r) (λ j. four j)) in
        rw (named q, d, eight_whole q.rest b (omega (arith, q.whole))) (ap (λ (t : List ℕ). 4 ∷ t) (sym q.here))
      where
        four : (j : ℕ) → get_or (4 ∷ r) j 0 < 256
        four zero = omega arith
        four (suc j) = y j

unversioned-back : (limit : ℕ) (r : List ℕ) (k : Key) → key_of limit 5 (5 ∷ r) ≡ Ok k → Encoded limit (5 ∷ r) (fields_of (5 ∷ r) k)
unfolding key_of
unversioned-back limit r k e =
    let u = ended-says (string_at limit 1 (5 ∷ r)) _ k e in
    let x = exactly-says _ _ _ _ u.2 in
    let q = stringed limit 1 u.0 (5 ∷ r) u.1 in
    rw (← x.1) (record { bytes = go q x.0; few = rw (named q) q.few })
  where
    go : {i : ℕ} (q : Stringed limit 1 i (5 ∷ r)) → i + 2 ≡ length (5 ∷ r) → 5 ∷ escape (unescaped (take (i - 1) r)) ≡ 5 ∷ r
    go q h =
        let z : q.rest ≡ [] = none q.rest (omega (arith, q.whole)) in
        rw (named q) (ap (λ (t : List ℕ). 5 ∷ t) (sym (q.here ∙ rw (z, append-nil))))

pub encode_decode : (limit : ℕ) (b : List ℕ) (k : Key) → Bytes b → decode_why limit b ≡ Ok k → Encoded limit b (fields_of b k)
unfolding decode_why key_of
encode_decode limit [] k y e = nope (cc)
encode_decode limit (zero ∷ r) k y e =
    let x = exactly-says 1 (suc (length r)) NextVersion k e in
    rw (← x.1) (record { bytes = ap (λ (t : List ℕ). 0 ∷ t) (sym (none r (omega (arith, x.0)))); few = omega arith })
encode_decode limit (suc zero ∷ r) k y e =
    let x = exactly-says 9 (suc (length r)) (TxnActive (num (take 8 r))) k e in
    rw (← x.1) (record { bytes = ap (λ (t : List ℕ). 1 ∷ t) (eight_whole r (λ i. y (suc i)) (omega (arith, x.0))); few = omega arith })
encode_decode limit (suc (suc zero) ∷ r) k y e =
    let x = exactly-says 9 (suc (length r)) (TxnActiveSnapshot (num (take 8 r))) k e in
    rw (← x.1) (record { bytes = ap (λ (t : List ℕ). 2 ∷ t) (eight_whole r (λ i. y (suc i)) (omega (arith, x.0))); few = omega arith })
encode_decode limit (suc (suc (suc zero)) ∷ r) k y e = write_back limit r k (λ i. y (suc i)) e
encode_decode limit (suc (suc (suc (suc zero))) ∷ r) k y e = version-back limit r k (λ i. y (suc i)) e
encode_decode limit (suc (suc (suc (suc (suc zero)))) ∷ r) k y e = unversioned-back limit r k e
encode_decode limit (suc (suc (suc (suc (suc (suc t))))) ∷ r) k y e = nope (cc)

-- ---- no encoding begins another

unescaped-escape : (s t : List ℕ) → unescaped (escape s ++ t) ≡ s
unfolding escape escape_body unescaped
unescaped-escape [] t = refl
unescaped-escape (x ∷ s) t = rw (append_assoc, append_assoc, plain_byte x (escape_body s ++ ((0 ∷ 0 ∷ []) ++ t))) (ap (λ (r : List ℕ). x ∷ r) (rw append_assoc at (unescaped-escape s t)))

-- the key that bytes begin with, where they begin with one
parsed : List ℕ → Fields
parsed [] = next_version
parsed (zero ∷ r) = next_version
parsed (suc zero ∷ r) = txn_active (num (take 8 r))
parsed (suc (suc zero) ∷ r) = txn_active_snapshot (num (take 8 r))
parsed (suc (suc (suc zero)) ∷ r) = txn_write (num (take 8 r)) (unescaped (drop 8 r))
parsed (suc (suc (suc (suc zero))) ∷ r) = version (unescaped r) (num (take 8 (drop (length (escape (unescaped r))) r)))
parsed (suc (suc (suc (suc (suc t)))) ∷ r) = unversioned (unescaped r)

-- eight bytes tell any number
any_eight : (v : ℕ) (t : List ℕ) → num (take 8 (be 8 v ++ t)) ≡ v
any_eight v t = rw (take_at (be 8 v) t 8 (length-be 8 v)) (num_any 7 v)

parsed_encode : (k : Fields) (t : List ℕ) → parsed (encode k ++ t) ≡ k
unfolding parsed
parsed_encode next_version t = refl
parsed_encode (txn_active v) t = ap txn_active (any_eight v t)
parsed_encode (txn_active_snapshot v) t = ap txn_active_snapshot (any_eight v t)
parsed_encode (txn_write v s) t = rw (append_assoc, any_eight v (escape s ++ t), drop_at (be 8 v) (escape s ++ t) 8 (length-be 8 v), unescaped-escape s t)
parsed_encode (version s v) t = rw (append_assoc, unescaped-escape s (be 8 v ++ t), drop_at (escape s) (be 8 v ++ t) (length (escape s)) refl, any_eight v t)
parsed_encode (unversioned s) t = ap unversioned (unescaped-escape s t)

pub no_prefix : (k j : Fields) (s t : List ℕ) → encode k ++ s ≡ encode j ++ t → k ≡ j
no_prefix k j s t e = sym (parsed_encode k s) ∙ ap parsed e ∙ parsed_encode j t
