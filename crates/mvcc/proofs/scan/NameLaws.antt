-- A key that decodes to a Version key is 04, its user key escaped, and more bytes; so user keys rise with the keys. Assumes nothing.
use Prim.Native.Nat.{ℕ, zero, suc, ◌+◌, ◌-◌}
use mathlib.Core.Path.{◌≡◌, refl, sym, ap, ◌∙◌}
use mathlib.Core.Bool.{Bool, true, false}
use mathlib.Core.List.{List, [], ◌∷◌, ◌++◌, append_assoc}
use native.Mathlib.Omega.{arith}
use lib.Dec.{leb}
use lib.ListN.{length, take, drop}
use lib.Seq.{take_at}
use Rattle.std.specs.Prelude.{Result, ℕ, Ok, Err, Some}
use Rattle.keycode.specs.declared.strings.Fault.{Fault}
use Rattle.keycode.specs.declared.refusal.Refusal.{Refusal}
use Rattle.std.specs.declared.cmp.Ordering.{Ordering}
use Rattle.std.specs.declared.cmp.Ordering.TheVariants.{Less, Greater}
use Rattle.keycode.specs.Tests.{pick}
use Rattle.keycode.specs.Limits.{max_key}
use Rattle.keycode.specs.Number.{num}
use Rattle.keycode.specs.Order.{compare_bytes, and_then}
use Rattle.keycode.specs.Strings.{escape_body, escape, unescaped, scanned, fault}
use Rattle.keycode.specs.key.Keys.{exactly, string_at, on_ended, key_of, decode_why, forget}
use Rattle.keycode.specs.declared.parts.Part.{Part}
use Rattle.keycode.specs.declared.strings.Reason.TheVariants.{TooFew, LeftOver}
use Rattle.keycode.specs.declared.key.Key.{Key}
use Rattle.keycode.specs.declared.key.Key.TheVariants.{NextVersion, TxnActive, TxnActiveSnapshot, TxnWrite, Version, Unversioned}
use Rattle.keycode.proofs.Basics.{nope}
use Rattle.keycode.proofs.OrderLaws.{same_head}
use Rattle.keycode.proofs.StringLaws.{Found, scan_found, unescaped_body}
use Rattle.keycode.proofs.SortLaws.{string_sorts}
use Rattle.mvcc.specs.version.Seen.{label_by}
use Rattle.mvcc.specs.scan.Steps.{Stamp, stamp_by, stamp_of}

-- ---- decoding, taken back

exactly-whole : (n l : ℕ) (k j : Key) → forget (exactly n l k) ≡ Ok j → k ≡ j
unfolding exactly
exactly-whole n l k j = go (leb n l) (leb l n)
  where
    go : (a b : Bool) → forget (pick a (pick b (Ok k) (Err (fault LeftOver n))) (Err (fault TooFew l))) ≡ Ok j → k ≡ j
    go true true e = cc
    go true false e = nope (cc)
    go false b e = nope (cc)

ended-whole : (x : Result ℕ Fault) (f : ℕ → Result Key Fault) (j : Key) → forget (on_ended x f) ≡ Ok j → (i : ℕ) × ((x ≡ Ok i) × (forget (f i) ≡ Ok j))
unfolding on_ended
ended-whole (Ok i) f j e = (i, (refl, e))
ended-whole (Err w) f j e = nope (cc)

-- the part of the key b that is its escaped string
pub record Named (b : List ℕ) (p : Part) : Type 0 where
  pub string : List ℕ
  pub rest : List ℕ
  pub start : p.at ≡ 1
  pub long : p.len ≡ length (escape_body string)
  pub here : b ≡ 4 ∷ (escape string ++ rest)

string_found : (i : ℕ) (r : List ℕ) → string_at max_key 1 (4 ∷ r) ≡ Ok i → Found max_key 1 i r
unfolding string_at
string_found i r = go (leb 1 (length (4 ∷ r)))
  where
    go : (t : Bool) → pick t (scanned max_key 1 r) (Err (fault TooFew (length (4 ∷ r)))) ≡ Ok i → Found max_key 1 i r
    go true e = scan_found max_key 1 i r e
    go false e = nope (cc)

string_named : (i : ℕ) (r : List ℕ) (p : Part) (n v : ℕ) → Found max_key 1 i r → Version (record { at = 1; len = i - 1 }) n ≡ Version p v → Named (4 ∷ r) p
unfolding escape
string_named i r p n v f e =
    let q : record { at = 1; len = i - 1 } ≡ p = cc in
    record {
      string = f.string;
      rest = f.rest;
      start = sym (ap (λ (x : Part). x.at) q);
      long = sym (ap (λ (x : Part). x.len) q) ∙ omega (arith, f.ends);
      here = ap (λ (x : List ℕ). 4 ∷ x) (f.here ∙ sym (append_assoc (escape_body f.string) (0 ∷ 0 ∷ []) f.rest));
    }

pub version-named : (b : List ℕ) (p : Part) (v : ℕ) → forget (decode_why max_key b) ≡ Ok (Version p v) → Named b p
unfolding decode_why key_of
version-named [] p v e = nope (cc)
version-named (zero ∷ r) p v e = let z = exactly-whole 1 (length (0 ∷ r)) NextVersion (Version p v) e in nope (cc)
version-named (suc zero ∷ r) p v e = let z = exactly-whole 9 (length (1 ∷ r)) (TxnActive (num (take 8 r))) (Version p v) e in nope (cc)
version-named (suc (suc zero) ∷ r) p v e = let z = exactly-whole 9 (length (2 ∷ r)) (TxnActiveSnapshot (num (take 8 r))) (Version p v) e in nope (cc)
version-named (suc (suc (suc zero)) ∷ r) p v e =
    let u = ended-whole (string_at max_key 9 (3 ∷ r)) _ (Version p v) e in
    let z = exactly-whole (u.0 + 2) (length (3 ∷ r)) _ (Version p v) u.1.1 in
    nope (cc)
version-named (suc (suc (suc (suc zero))) ∷ r) p v e =
    let u = ended-whole (string_at max_key 1 (4 ∷ r)) _ (Version p v) e in
    string_named u.0 r p _ v (string_found u.0 r u.1.0) (exactly-whole (u.0 + 10) (length (4 ∷ r)) _ (Version p v) u.1.1)
version-named (suc (suc (suc (suc (suc zero)))) ∷ r) p v e =
    let u = ended-whole (string_at max_key 1 (5 ∷ r)) _ (Version p v) e in
    let z = exactly-whole (u.0 + 2) (length (5 ∷ r)) _ (Version p v) u.1.1 in
    nope (cc)
version-named (suc (suc (suc (suc (suc (suc t))))) ∷ r) p v e = nope (cc)

module _ {b : List ℕ} {p : Part} (n : Named b p) where
  pub named_part : take p.len (drop 1 b) ≡ escape_body n.string
  unfolding escape
  named_part = rw (n.long, n.here, append_assoc) (take_at (escape_body n.string) (0 ∷ 0 ∷ n.rest) (length (escape_body n.string)) refl)

  pub named-user : unescaped (take p.len (drop p.at b)) ≡ n.string
  named-user = ap unescaped (ap (λ (i : ℕ). take p.len (drop i b)) n.start ∙ named_part) ∙ (unescaped_body n.string).0

-- ---- the bytes of a stamp's key

pub record Spelt (b : List ℕ) (s : Stamp) : Type 0 where
  pub rest : List ℕ
  pub here : b ≡ 4 ∷ (escape s.user ++ rest)

pub spelt : (b : List ℕ) (s : Stamp) → stamp_of b ≡ Some s → Spelt b s
unfolding stamp_of
spelt b s = go (forget (decode_why max_key b)) refl
  where
    go : (d : Result Key Refusal) → forget (decode_why max_key b) ≡ d → stamp_by b (label_by d) ≡ Some s → Spelt b s
    go (Ok NextVersion) e q = nope (cc)
    go (Ok (TxnActive v)) e q = nope (cc)
    go (Ok (TxnActiveSnapshot v)) e q = nope (cc)
    go (Ok (TxnWrite v p)) e q = nope (cc)
    go (Ok (Version p v)) e q =
        let n = version-named b p v e in
        let z : record { user = unescaped (take p.len (drop p.at b)); version = v } ≡ s = cc in
        record { rest = n.rest; here = n.here ∙ ap (λ (x : List ℕ). 4 ∷ (escape x ++ n.rest)) (sym (named-user n) ∙ ap (λ (x : Stamp). x.user) z) }
    go (Ok (Unversioned p)) e q = nope (cc)
    go (Err r) e q = nope (cc)

-- user keys do not fall where keys rise
pub users_rise : {a b : List ℕ} {s t : Stamp} → Spelt a s → Spelt b t → compare_bytes a b ≡ Less → compare_bytes s.user t.user ≡ Greater → ⊥
users_rise {a} {b} {s} {t} x y l g =
    let q : compare_bytes a b ≡ and_then (compare_bytes s.user t.user) (compare_bytes x.rest y.rest) =
    rw (x.here, y.here) (same_head 4 (escape s.user ++ x.rest) (escape t.user ++ y.rest) ∙ string_sorts.sorted s.user t.user tt tt x.rest y.rest) in
    let z : Greater ≡ Less = sym (q ∙ ap (λ (o : Ordering). and_then o (compare_bytes x.rest y.rest)) g) ∙ l in
    nope (cc)
