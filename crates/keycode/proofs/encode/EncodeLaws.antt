-- What encoding into a lent buffer answers and leaves, by what `measured` found. Assumes nothing.
use Prim.Native.Nat.{ℕ, ◌+◌, ◌≤◌, ◌<◌}
use mathlib.Core.Path.{◌≡◌, refl, sym, ◌∙◌}
use mathlib.Core.Bool.{Bool, true, false}
use mathlib.Core.List.{List, [], ◌∷◌, ◌++◌}
use native.Mathlib.Omega.{arith}
use lib.ListN.{length, set, length-append}
use lib.Dec.{leb}
use borrow.Author.Tests.{le-leb, lt-leb, leb-true}
use Rattle.std.specs.Prelude.{Result, ℕ, Ok, Err}
use Rattle.keycode.specs.declared.refusal.Refusal.{Refusal}
use Rattle.keycode.specs.declared.refusal.Refusal.TheVariants.{KeyTooLong, BadRequest}
use Rattle.keycode.specs.Tests.{pick}
use Rattle.keycode.specs.Limits.{max_key}
use Rattle.keycode.specs.Buffer.{put}
use Rattle.keycode.specs.Strings.{escape_body}
use Rattle.keycode.specs.Prefix.{searched}
use Rattle.keycode.specs.key.Keys.{encode, txn_write, version, unversioned}
use Rattle.keycode.specs.Promises.{fitted}
use Rattle.keycode.specs.encode.Promises.{encode_answer, Encodes}
use Rattle.keycode.proofs.Basics.{nope}
use Rattle.keycode.proofs.WriteLaws.{writes_refused, writes_done}
use Rattle.keycode.proofs.BufferLaws.{put-put, set-put}
use Rattle.keycode.proofs.NumberLaws.{length-be}
use Rattle.keycode.proofs.StringLaws.{escape-length}

-- ---- the tests

module _ (s : List ℕ) (n room : ℕ) where
  pub measure_long : max_key < length s → Err KeyTooLong ≡ encode_answer s n room
  unfolding encode_answer
  measure_long h = rw (lt-leb (length s) max_key h)

  pub measure_short : length s ≤ max_key → room < n → Err BadRequest ≡ encode_answer s n room
  unfolding encode_answer fitted
  measure_short h g = rw (le-leb (length s) max_key h, lt-leb n room g)

  pub measure_done : (m : ℕ) → m ≡ n → length s ≤ max_key → n ≤ room → Ok m ≡ encode_answer s n room
  unfolding encode_answer fitted
  measure_done m e h g = rw (e, le-leb (length s) max_key h, le-leb n room g)

  pub measure_says : (m : ℕ) → encode_answer s n room ≡ Ok m → (length s ≤ max_key) × (n ≤ room) × (m ≡ n)
  unfolding encode_answer fitted
  measure_says m = go (leb (length s) max_key) refl (leb n room) refl
    where
      go : (a : Bool) → leb (length s) max_key ≡ a → (b : Bool) → leb n room ≡ b
          → pick a (pick b (Ok n) (Err BadRequest)) (Err KeyTooLong) ≡ Ok m → (length s ≤ max_key) × (n ≤ room) × (m ≡ n)
      go true p true q r = (leb-true (length s) max_key p, leb-true n room q, cc)
      go true p false q r = nope (cc)
      go false p b q r = nope (cc)

-- ---- an encoding

-- the encoding e, of m bytes, by what `measured` answered
module _ (s e d : List ℕ) (m : ℕ) (size : length e ≡ m) (got : Result ℕ Refusal) (says : got ≡ encode_answer s m (length d)) where
  pub encode_refused : (r : Refusal) → got ≡ Err r → Encodes s e d (Err r) d
  encode_refused r g = rw size (writes_refused _ e d r (sym g ∙ says))

  module _ (n : ℕ) (g : got ≡ Ok n) where
    pub encode-room : m ≤ length d
    encode-room = (measure_says s m (length d) n (sym says ∙ g)).1

    pub encode_done : (out : List ℕ) → out ≡ put d 0 e → Encodes s e d (Ok n) out
    encode_done out q = rw size (writes_done _ e d out n (sym g ∙ says) q)

-- ---- the tag, and then one run of bytes or two

pub one_put : (t : ℕ) (x d d₁ : List ℕ) → 1 + length x ≤ length d → d₁ ≡ put (set d 0 t) 1 x → d₁ ≡ put d 0 (t ∷ x)
one_put t x d d₁ h p = p ∙ rw (set-put d 0 t (omega arith)) (put-put d 0 (t ∷ []) (omega arith) x)

pub two_put : (t : ℕ) (x y d d₁ d₂ : List ℕ) (o : ℕ) → 1 + (length x + length y) ≤ length d → o ≡ 1 + length x
    → d₁ ≡ put (set d 0 t) 1 x → d₂ ≡ put d₁ o y → d₂ ≡ put d 0 (t ∷ x ++ y)
two_put t x y d d₁ d₂ o h e p q =
    let f : o ≡ 0 + length (t ∷ x) = omega arith in
    q ∙ rw (one_put t x d d₁ (omega arith) p, f) (put-put d 0 (t ∷ x) (omega arith) y)

-- ---- how long the encodings are

pub version-length : (s : List ℕ) (v : ℕ) → length (encode (version s v)) ≡ length (escape_body s) + 11
version-length s v = simp (length-append, length-be) (omega (arith, escape-length s))

pub write_length : (v : ℕ) (s : List ℕ) → length (encode (txn_write v s)) ≡ length (escape_body s) + 11
write_length v s = simp (length-append, length-be) (omega (arith, escape-length s))

pub unversioned-length : (s : List ℕ) → length (encode (unversioned s)) ≡ length (escape_body s) + 3
unversioned-length s = omega (arith, escape-length s)

pub searched-length : (s : List ℕ) → length (searched s) ≡ length (escape_body s) + 1
searched-length s = omega arith
