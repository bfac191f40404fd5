-- Laws of answers in one number: every length is below the half, so that both halves can be read; and what the exported functions on keys
-- answer and leave. Assumes nothing.
use Prim.Native.Nat.{ℕ, ◌+◌, ◌*◌, ◌≤◌, ◌<◌}
use mathlib.Core.Path.{◌≡◌, refl, ap, ◌∙◌}
use mathlib.Core.Bool.{Bool, true, false}
use mathlib.Core.List.{List, ◌∷◌, ◌++◌, append_assoc}
use native.Mathlib.Omega.{arith}
use lib.Dec.{leb}
use lib.ListN.{length, set, length-append}
use borrow.Author.Tests.{le-leb}
use Rattle.std.specs.Prelude.{Result, ℕ, Ok, Err}
use Rattle.keycode.specs.Tests.{pick}
use Rattle.keycode.specs.Limits.{max_key}
use Rattle.keycode.specs.Number.{be}
use Rattle.keycode.specs.Buffer.{put}
use Rattle.keycode.specs.Strings.{unescaped, plain_length}
use Rattle.keycode.specs.Promises.{Writes, fitted, into_room}
use Rattle.keycode.specs.declared.refusal.Refusal.{Refusal}
use Rattle.keycode.specs.declared.refusal.Refusal.TheVariants.{BadRequest}
use Rattle.keycode.proofs.BufferLaws.{put_front, put-put}
use Rattle.keycode.proofs.NumberLaws.{length-be}
use Rattle.keycode.proofs.StringLaws.{body_bound, plain_done}
use Rattle.keycode.specs.key.Keys.{Fields, next_version, txn_active, txn_active_snapshot, txn_write, version, unversioned, encode, user_key, decode_why, forget}
use Rattle.keycode.specs.encode.Promises.{encode_answer}
use Rattle.keycode.specs.declared.key.Key.{Key}
use Rattle.keycode.proofs.encode.EncodeLaws.{measure_says, two_put, version-length, write_length, unversioned-length}
use Rattle.host.specs.Answers.{half, length_of, packed, Tells}
use Rattle.host.specs.Promises.{Gives, Encodes, Unescapes, DecodesInto, field_count, split, laid_out, split_bytes}
use Rattle.host.specs.declared.coding.Split.{Split}

-- ---- the halves

pub packed_tells : (a : Result ℕ Refusal) → length_of a < half → Tells a (packed a)
packed_tells (Ok n) h = record { number = omega arith; value = omega arith }
packed_tells (Err r) h = record { number = omega arith; value = omega arith }

-- what a call wrote, with its answer packed
gives : (a : Result ℕ Refusal) (e d : List ℕ) {x : Result ℕ Refusal} {r : ℕ} {out : List ℕ} → length_of a < half → Writes a e d x out → r ≡ packed x → Gives a e d r out
gives a e d h w q = record { answer = rw (q, w.answer) (packed_tells a h); buffer = rw (← w.answer) w.buffer }

-- ---- encoding

short : (k : Fields) → length (encode k) ≤ 2 * length (user_key k) + 11
short next_version = omega arith
short (txn_active v) = omega (arith, length-be 8 v)
short (txn_active_snapshot v) = omega (arith, length-be 8 v)
short (txn_write v s) = omega (arith, write_length v s, body_bound s)
short (version s v) = omega (arith, version-length s v, body_bound s)
short (unversioned s) = omega (arith, unversioned-length s, body_bound s)

encode-small : (k : Fields) (room : ℕ) → length_of (encode_answer (user_key k) (length (encode k)) room) < half
encode-small k room = go (encode_answer (user_key k) (length (encode k)) room) refl
  where
    go : (a : Result ℕ Refusal) → encode_answer (user_key k) (length (encode k)) room ≡ a → length_of a < half
    go (Ok m) e = let w = measure_says (user_key k) (length (encode k)) room m e in omega (arith, w.0, w.2, short k)
    go (Err r) e = omega arith

pub encode-gives : (k : Fields) (d : List ℕ) {x : Result ℕ Refusal} {r : ℕ} {out : List ℕ} → Writes (encode_answer (user_key k) (length (encode k)) (length d)) (encode k) d x out → r ≡ packed x → Encodes k d r out
encode-gives k d w q = gives (encode_answer (user_key k) (length (encode k)) (length d)) (encode k) d (encode-small k (length d)) w q

-- ---- unescaping

fitted-small : (n room : ℕ) → n ≤ max_key → length_of (fitted n room) < half
unfolding fitted
fitted-small n room h = go (leb n room)
  where
    go : (b : Bool) → length_of (pick b (Ok n) (Err BadRequest)) < half
    go true = omega arith
    go false = omega arith

plain_small : (s : List ℕ) (room : ℕ) → length_of (into_room (plain_length s) room) < half
plain_small s room = go (plain_length s) refl
  where
    go : (a : Result ℕ Refusal) → plain_length s ≡ a → length_of (into_room a room) < half
    go (Ok n) e = fitted-small n room (plain_done s n e).2
    go (Err r) e = omega arith

pub unescape_gives : (s d : List ℕ) {x : Result ℕ Refusal} {r : ℕ} {out : List ℕ} → Writes (into_room (plain_length s) (length d)) (unescaped s) d x out → r ≡ packed x → Unescapes s d r out
unescape_gives s d w q = gives (into_room (plain_length s) (length d)) (unescaped s) d (plain_small s (length d)) w q

-- ---- decoding

pub lay-is : (kind v at len : ℕ) (d d₁ d₂ d₃ : List ℕ) → field_count ≤ length d → d₁ ≡ put (set d 0 kind) 1 (be 8 v) → d₂ ≡ put d₁ 9 (be 8 at) → d₃ ≡ put d₂ 17 (be 8 len)
    → d₃ ≡ put d 0 (laid_out kind v at len)
lay-is kind v at len d d₁ d₂ d₃ h p q s =
    let l = length-be 8 v in
    let m = length-be 8 at in
    let n : 17 ≡ 0 + length (kind ∷ be 8 v ++ be 8 at) = simp (length-append, length-be) in
    s ∙ rw (two_put kind (be 8 v) (be 8 at) d d₁ d₂ 9 (omega arith) (omega arith) p q, n) (put-put d 0 (kind ∷ be 8 v ++ be 8 at) (omega arith) (be 8 len) ∙ ap (put d 0) (ap (λ (x : List ℕ). kind ∷ x) (append_assoc (be 8 v) (be 8 at) (be 8 len))))

pub decode-laid : (b d : List ℕ) {got : Result Key Refusal} {s : Split} {out : List ℕ} (k : Key) → field_count ≤ length d → got ≡ forget (decode_why max_key b) → got ≡ Ok k → s ≡ split k
    → out ≡ put d 0 (split_bytes s) → DecodesInto b d (Ok field_count) out
decode-laid b d k h e g p w =
    rw (le-leb field_count (length d) h, ← e, g, w, p)
    (record { answer = refl; buffer = put_front d (split_bytes (split k)) })
