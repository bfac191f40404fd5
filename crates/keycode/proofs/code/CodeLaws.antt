-- Laws of encoded keys by value: one for all makers, and how long each key is. Assumes nothing.
use Prim.Native.Nat.{ℕ, ◌≤◌}
use mathlib.Core.Path.{◌≡◌, refl, sym, ap, ◌∙◌}
use mathlib.Core.List.{List, ◌∷◌, ◌++◌}
use native.Mathlib.Omega.{arith}
use lib.ListN.{length, take, drop, length-append, length-drop}
use lib.Seq.{take_at}
use Rattle.std.specs.Prelude.{Result, ℕ, Ok, replicate}
use Rattle.keycode.specs.Limits.{max_key}
use Rattle.keycode.specs.Number.{be}
use Rattle.keycode.specs.key.Keys.{encode, next_version, txn_write, version, unversioned}
use Rattle.keycode.specs.Prefix.{searched}
use Rattle.keycode.specs.encode.Promises.{Encodes}
use Rattle.keycode.specs.declared.refusal.Refusal.{Refusal}
use Rattle.keycode.proofs.NumberLaws.{length-be}
use Rattle.keycode.proofs.StringLaws.{body_bound}
use Rattle.keycode.proofs.encode.EncodeLaws.{measure_done, version-length, write_length, unversioned-length, searched-length}
use Rattle.keycode.specs.declared.code.Code.{Code}
use Rattle.keycode.specs.code.Codes.{key_bytes, Codes, code_of}

-- an encoder with room enough and a user key within the limit makes the code of its key
pub code_made : (s e d b : List ℕ) {got : Result ℕ Refusal} {r : Code} → length s ≤ max_key → length e ≤ key_bytes → length d ≡ key_bytes → length b ≡ length d
    → Encodes s e d got b → r ≡ code_of got b → Codes r e
code_made s e d b {got} hs he full kept w q =
    let done : got ≡ Ok (length e) = w.answer ∙ sym (measure_done s (length e) (length d) (length e) refl hs (omega arith)) in
    let laid : b ≡ e ++ drop (length e) d = rw done at w.buffer in
    rw (q, done)
    (record { whole = kept ∙ full; within = he; says = ap (take (length e)) laid ∙ take_at e (drop (length e) d) (length e) refl })

-- the same of an encoder that was lent zeros
pub code_coded : (s e b : List ℕ) (got : Result ℕ Refusal) {r : Code} → length s ≤ max_key → length e ≤ key_bytes → Encodes s e (replicate key_bytes 0) got b → r ≡ code_of got b → Codes r e
code_coded s e b got hs he w q =
    let d : List ℕ = replicate key_bytes 0 in
    let done : got ≡ Ok (length e) = w.answer ∙ sym (measure_done s (length e) (length d) (length e) refl hs he) in
    let laid : b ≡ e ++ drop (length e) d = rw done at w.buffer in
    let kept : length b ≡ key_bytes = ap length laid ∙ length-append e (drop (length e) d) ∙ omega (arith, length-drop (length e) d) in
    code_made s e d b hs he refl kept w q

pub next_fits : length (encode next_version) ≤ key_bytes
next_fits = omega arith

pub number_fits : (t v : ℕ) → length (t ∷ be 8 v) ≤ key_bytes
number_fits t v = omega (arith, length-be 8 v)

module _ (s : List ℕ) (h : length s ≤ max_key) where
  pub version-fits : (v : ℕ) → length (encode (version s v)) ≤ key_bytes
  version-fits v = omega (arith, version-length s v, body_bound s)

  pub write_fits : (v : ℕ) → length (encode (txn_write v s)) ≤ key_bytes
  write_fits v = omega (arith, write_length v s, body_bound s)

  pub unversioned-fits : length (encode (unversioned s)) ≤ key_bytes
  unversioned-fits = omega (arith, unversioned-length s, body_bound s)

  pub searched-fits : length (searched s) ≤ key_bytes
  searched-fits = omega (arith, searched-length s, body_bound s)
