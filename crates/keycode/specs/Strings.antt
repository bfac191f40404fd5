-- Byte strings inside keys: each 00 of the string becomes 00 ff, then 00 00 ends it; any other byte
-- after 00, or no end, is a fault. What a fault is and at which byte it shows is told here, for the decoder. Assumes nothing.
use Rattle.keycode.specs.declared.refusal.Refusal.{Refusal}
use Rattle.std.specs.Prelude.{ℕ, zero, suc, ◌+◌, Bool, true, false, List, [], ◌∷◌, ◌++◌, length, eqb, leb, Result, Ok, Err, Option, Some, None}
use Rattle.keycode.specs.Tests.{pick}
use Rattle.keycode.specs.Limits.{max_key}
use Rattle.keycode.specs.declared.refusal.Refusal.TheVariants.{BadStore}
use Rattle.keycode.specs.declared.strings.Fault.{Fault}
use Rattle.keycode.specs.declared.strings.Reason.{Reason}
use Rattle.keycode.specs.declared.strings.Reason.TheVariants.{BadEscape, NoEnd, OverLimit}

-- a byte, escaped
unfoldable pub escape_byte : ℕ → List ℕ
escape_byte zero = 0 ∷ 255 ∷ []
escape_byte (suc n) = suc n ∷ []

-- a string's bytes, escaped, with no end
unfoldable pub escape_body : List ℕ → List ℕ
escape_body [] = []
escape_body (x ∷ xs) = escape_byte x ++ escape_body xs

-- a string, escaped, and its end
unfoldable pub escape : List ℕ → List ℕ
escape s = escape_body s ++ (0 ∷ 0 ∷ [])

-- the string that escaped bytes with no end are; it stops where they are escaped badly
unfoldable pub unescaped : List ℕ → List ℕ
unescaped [] = []
unescaped (zero ∷ []) = []
unescaped (zero ∷ zero ∷ r) = []
unescaped (zero ∷ suc y ∷ r) = 0 ∷ unescaped r
unescaped (suc x ∷ r) = suc x ∷ unescaped r

-- each 00 has ff after it
unfoldable pub well_escaped : List ℕ → Bool
well_escaped [] = true
well_escaped (zero ∷ []) = false
well_escaped (zero ∷ zero ∷ r) = false
well_escaped (zero ∷ suc y ∷ r) = pick (eqb (suc y) 255) (well_escaped r) false
well_escaped (suc x ∷ r) = well_escaped r

-- how many bytes the string of escaped bytes with no end has; 12 where they are escaped badly or it is over the limit
unfoldable pub plain_length : List ℕ → Result ℕ Refusal
unfolding well_escaped unescaped
plain_length s = pick (well_escaped s) (pick (leb (length (unescaped s)) max_key) (Ok (length (unescaped s))) (Err BadStore)) (Err BadStore)

-- ---- reading escaped bytes out of a key

abbrev pub fault : Reason → ℕ → Fault
fault w i = record { reason = w; at = i }

-- what stands at index i of a key, where the bytes from there on are given: a byte of the string with the index after it, the end, or a fault
unfoldable pub step_at : ℕ → List ℕ → Result (Option (ℕ × ℕ)) Fault
step_at i [] = Err (fault NoEnd i)
step_at i (zero ∷ []) = Err (fault NoEnd (i + 1))
step_at i (zero ∷ zero ∷ r) = Ok None
step_at i (zero ∷ suc y ∷ r) = pick (eqb (suc y) 255) (Ok (Some (0, i + 2))) (Err (fault BadEscape (i + 1)))
step_at i (suc x ∷ r) = Ok (Some (suc x, i + 1))

-- one more byte of a string of which `left` more are allowed; i is the last of its escaped bytes
abbrev pub one_more : ℕ → ℕ → (ℕ → Result ℕ Fault) → Result ℕ Fault
one_more zero i f = Err (fault OverLimit i)
one_more (suc l) i f = f l

-- where the string that stands from index i on ends, if it has at most `left` bytes: the index of its closing 00 00; else the first fault
unfoldable pub scanned : ℕ → ℕ → List ℕ → Result ℕ Fault
scanned left i [] = Err (fault NoEnd i)
scanned left i (zero ∷ []) = Err (fault NoEnd (i + 1))
scanned left i (zero ∷ zero ∷ r) = Ok i
scanned left i (zero ∷ suc y ∷ r) = pick (eqb (suc y) 255) (one_more left (i + 1) (λ l. scanned l (i + 2) r)) (Err (fault BadEscape (i + 1)))
scanned left i (suc x ∷ r) = one_more left i (λ l. scanned l (i + 1) r)
