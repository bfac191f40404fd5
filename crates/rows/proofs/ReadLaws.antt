-- What the code that reads one field knows at each of its ways out. Assumes nothing.
use Prim.Native.Nat.{ℕ, zero, suc, min, ◌+◌, ◌≤◌, ◌<◌}
use mathlib.Core.Path.{◌≡◌, refl, sym, ap, ◌∙◌}
use mathlib.Core.Bool.{Bool, true, false}
use mathlib.Core.List.{List, [], ◌∷◌, ◌++◌}
use native.Mathlib.Omega.{arith}
use lib.ListN.{length, take, drop, get_or, length-append, length-take, drop_of_length-le}
use lib.Seq.{drop-cons}
use lib.Dec.{ltb, eqb}
use lib.IntN.{ℤ}
use mir.Syntax.{w64}
use mir.Val.{SFits, to_z, of_z}
use mir.ValLaws.{to_z-of_z}
use borrow.Author.Tests.{le-leb, lt-leb, ltb-true, ltb-false}
use Rattle.std.specs.Result.{result_ok}
use Rattle.std.specs.Prelude.{Result, Ok, Err, Option, Some, None}
use Rattle.keycode.specs.Tests.{pick}
use Rattle.keycode.specs.Number.{num}
use Rattle.keycode.specs.Strings.{escape_byte, escape_body, step_at, fault}
use Rattle.keycode.specs.declared.strings.Fault.{Fault}
use Rattle.keycode.specs.declared.strings.Reason.TheVariants.{BadEscape}
use Rattle.codecs.specs.declared.fields.Kind.TheVariants.{Boolean, Unsigned, Signed, Float}
use Rattle.rows.specs.declared.fields.Field.TheVariants.{Flag, U64, I64, F64}
use Rattle.codecs.specs.declared.fields.Denial.{Denial}
use Rattle.codecs.specs.declared.fields.Denial.TheVariants.{BadKey, BadFlag}
use Rattle.codecs.specs.declared.utf8.State.{State}
use Rattle.codecs.specs.Denials.{Got, got, bad, map_got}
use Rattle.codecs.specs.Signs.{unbiased, unflipped, biased, flipped}
use Rattle.codecs.specs.Utf8.{Awaited, await, fed, fed_all, ended, well_formed}
use Rattle.codecs.specs.States.{awaited_by}
use Rattle.codecs.specs.Kinds.{flag_bytes, read_flag, read_eight, push, read_bytes}
use Rattle.rows.specs.Inner.{value_of, taken_as, strung_as}
use Rattle.keycode.proofs.Basics.{nope}
use Rattle.keycode.proofs.NumberLaws.{length-be}
use Rattle.keycode.proofs.StringLaws.{AtByte}
use Rattle.codecs.proofs.KindLaws.{read_byte}

-- ---- a boolean

flag-other : (x : ℕ) (r : List ℕ) → (x ≡ 0 → ⊥) → (x ≡ 1 → ⊥) → read_flag (x ∷ r) ≡ bad BadFlag
unfolding read_flag
flag-other zero r n o = absurd (n refl)
flag-other (suc zero) r n o = absurd (o refl)
flag-other (suc (suc x)) r n o = refl

module _ (key : List ℕ) (at : ℕ) where
  pub flag-few : false ≡ ltb at (length key) → Err BadKey ≡ taken_as Boolean at (read_flag (drop at key))
  unfolding taken_as read_flag
  flag-few t = rw (drop_of_length-le key (ltb-false at (length key) (sym t)))

  module _ (t : true ≡ ltb at (length key)) (x : ℕ) (is : x ≡ get_or key at x) where
    here : drop at key ≡ x ∷ drop (suc at) key
    here = drop-cons key at x (ltb-true at (length key) (sym t)) ∙ ap (λ (y : ℕ). y ∷ drop (suc at) key) (sym is)

    pub flag_no : x ≡ 0 → Ok (Flag false, at + 1) ≡ taken_as Boolean at (read_flag (drop at key))
    unfolding taken_as read_flag flag_bytes
    flag_no e = rw (here, e)

    pub flag_yes : x ≡ 1 → Ok (Flag true, at + 1) ≡ taken_as Boolean at (read_flag (drop at key))
    unfolding taken_as read_flag flag_bytes
    flag_yes e = rw (here, e)

    pub flag_wrong : (x ≡ 0 → ⊥) → (x ≡ 1 → ⊥) → Err BadFlag ≡ taken_as Boolean at (read_flag (drop at key))
    unfolding taken_as
    flag_wrong n o = rw (here, flag-other x (drop (suc at) key) n o)

-- ---- eight bytes

module _ (key : List ℕ) (at : ℕ) (p : List ℕ) (is : p ≡ take 8 (drop at key)) where
  -- the part is cut where fewer are left
  long : length p ≡ min 8 (length (drop at key))
  long = ap length is ∙ length-take 8 (drop at key)

  pub word-few : length p < 8 → Err BadKey ≡ value_of (read_eight (drop at key))
  unfolding value_of read_eight
  word-few h = let l : length (drop at key) < 8 = omega (arith, long) in rw (lt-leb 8 (length (drop at key)) l)

  pub word_read : 8 ≤ length p → (n : ℕ) → n ≡ num p → Ok n ≡ value_of (read_eight (drop at key))
  unfolding value_of read_eight
  word_read h n e = let l : 8 ≤ length (drop at key) = omega (arith, long) in rw (le-leb 8 (length (drop at key)) l, e, is)

-- what the number that was read says
value_bad : {A : Type 0} (g : Got A) (d : Denial) → Err d ≡ value_of g → g ≡ bad d
unfolding value_of
value_bad (got a r) d e = nope (cc)
value_bad {A = A} (bad f) d e = let q : ◌≡◌ {A = Result A Denial} (Err d) (Err f) = e in ap bad (cc)

value_got : {A : Type 0} (g : Got A) (a : A) → Ok a ≡ value_of g → (r : List ℕ) × (g ≡ got a r)
unfolding value_of
value_got {A = A} (got b r) a e = let q : ◌≡◌ {A = Result A Denial} (Ok a) (Ok b) = e in (r, ap (λ (x : A). got x r) (cc))
value_got (bad f) a e = nope (cc)

module _ (key : List ℕ) (at : ℕ) (w : Result ℕ Denial) (says : w ≡ value_of (read_eight (drop at key))) where
  module _ (d : Denial) (e : w ≡ Err d) where
    none_read : read_eight (drop at key) ≡ bad d
    none_read = value_bad (read_eight (drop at key)) d (sym e ∙ says)

    pub unsigned-few : Err d ≡ taken_as Unsigned at (read_eight (drop at key))
    unfolding taken_as
    unsigned-few = rw none_read

    pub signed-few : Err d ≡ taken_as Signed at (map_got unbiased (read_eight (drop at key)))
    unfolding taken_as map_got
    signed-few = rw none_read

    pub float-few : Err d ≡ taken_as Float at (map_got unflipped (read_eight (drop at key)))
    unfolding taken_as map_got
    float-few = rw none_read

  module _ (n : ℕ) (e : w ≡ Ok n) where
    eight_read : (r : List ℕ) × (read_eight (drop at key) ≡ got n r)
    eight_read = value_got (read_eight (drop at key)) n (sym e ∙ says)

    pub unsigned_read : Ok (U64 n, at + 8) ≡ taken_as Unsigned at (read_eight (drop at key))
    unfolding taken_as
    unsigned_read = rw (eight_read.1, length-be 8 n)

    pub signed_read : (z : ℤ) → SFits w64 z → z ≡ unbiased n → Ok (I64 (to_z w64 (of_z w64 z)), at + 8) ≡ taken_as Signed at (map_got unbiased (read_eight (drop at key)))
    unfolding taken_as map_got
    signed_read z f g = rw (to_z-of_z w64 z f, eight_read.1, length-be 8 (biased (unbiased n)), g)

    pub float_read : (v : ℕ) → v ≡ unflipped n → Ok (F64 v, at + 8) ≡ taken_as Float at (map_got unflipped (read_eight (drop at key)))
    unfolding taken_as map_got
    float_read v g = rw (eight_read.1, length-be 8 (flipped (unflipped n)), g)

-- ---- a string

-- read from index i on, where the bytes before have left `a` to come
unfoldable pub strung_from : ℕ → Awaited → Got (List ℕ) → Option (ℕ × Bool)
strung_from i a (got s r) = Some (i + length (escape_body s), ended (fed_all a s))
strung_from i a (bad d) = None

strung_start : (at : ℕ) (g : Got (List ℕ)) → strung_as at g ≡ strung_from at (await []) g
unfolding strung_as strung_from well_formed
strung_start at (got s r) = refl
strung_start at (bad d) = refl

strung_push : (i j b : ℕ) (a c : Awaited) (g : Got (List ℕ)) → j ≡ i + length (escape_byte b) → c ≡ fed a b → strung_from i a (push b g) ≡ strung_from j c g
unfolding strung_from push fed_all escape_body
strung_push i j b a c (got s r) e f =
    let l : i + length (escape_byte b ++ escape_body s) ≡ j + length (escape_body s) = simp length-append (omega arith) in
    rw (l, f)
strung_push i j b a c (bad d) e f = refl

closed_reads : (i : ℕ) (r : List ℕ) → step_at i r ≡ Ok None → (q : List ℕ) × (read_bytes r ≡ got [] q)
unfolding step_at read_bytes
closed_reads i [] e = nope (cc)
closed_reads i (zero ∷ []) e = nope (cc)
closed_reads i (zero ∷ zero ∷ r) e = (r, refl)
closed_reads i (zero ∷ suc y ∷ r) e = go (eqb (suc y) 255) e
  where
    go : (t : Bool) → ◌≡◌ {A = Result (Option (ℕ × ℕ)) Fault} (pick t (Ok (Some (0, i + 2))) (Err (fault BadEscape (i + 1)))) (Ok None) → (q : List ℕ) × (pick t (push 0 (read_bytes r)) (bad BadKey) ≡ got [] q)
    go true p = nope (cc)
    go false p = nope (cc)
closed_reads i (suc x ∷ r) e = nope (cc)

bad-reads : (i : ℕ) (r : List ℕ) (w : Fault) → step_at i r ≡ Err w → read_bytes r ≡ bad BadKey
unfolding step_at read_bytes
bad-reads i [] w e = refl
bad-reads i (zero ∷ []) w e = refl
bad-reads i (zero ∷ zero ∷ r) w e = nope (cc)
bad-reads i (zero ∷ suc y ∷ r) w e = go (eqb (suc y) 255) e
  where
    go : (t : Bool) → pick {A = Result (Option (ℕ × ℕ)) Fault} t (Ok (Some (0, i + 2))) (Err (fault BadEscape (i + 1))) ≡ Err w → pick t (push 0 (read_bytes r)) (bad BadKey) ≡ bad BadKey
    go true p = nope (cc)
    go false p = refl
bad-reads i (suc x ∷ r) w e = nope (cc)

-- what is left of a step whose fault is not told
pub step_some : {A B : Type 0} (r : Result A B) (o : Option A) (a : A) → o ≡ result_ok r → o ≡ Some a → r ≡ Ok a
step_some {A = A} (Ok b) o a e h = let z : ◌≡◌ {A = Option A} (Some b) (Some a) = sym e ∙ h in cc
step_some {A = A} (Err x) o a e h = let z : ◌≡◌ {A = Option A} None (Some a) = sym e ∙ h in nope (cc)

pub step_none : {A B : Type 0} (r : Result A B) (o : Option A) → o ≡ result_ok r → o ≡ None → (x : B) × (r ≡ Err x)
step_none {A = A} (Ok b) o e h = let z : ◌≡◌ {A = Option A} (Some b) None = sym e ∙ h in nope (cc)
step_none (Err x) o e h = (x, refl)

pub record Stringing (key : List ℕ) (at i : ℕ) (state : State) : Type 0 where
  pub upto : i ≤ length key
  pub whole : strung_as at (read_bytes (drop at key)) ≡ strung_from i (awaited_by state) (read_bytes (drop i key))

pub string_begin : (key : List ℕ) (at : ℕ) (s : State) → awaited_by s ≡ await [] → at ≤ length key → Stringing key at at s
string_begin key at s e h = record { upto = h; whole = rw e (strung_start at (read_bytes (drop at key))) }

module _ {key : List ℕ} {at i : ℕ} {state : State} (w : Stringing key at i state) where
  pub string_next : (b j : ℕ) (after : State) → AtByte key i b j → awaited_by after ≡ fed (awaited_by state) b → Stringing key at j after
  string_next b j after a e =
      record {
        upto = a.within;
        whole = w.whole ∙ ap (strung_from i (awaited_by state)) (ap read_bytes a.here ∙ read_byte b (drop j key))
            ∙ strung_push i j b (awaited_by state) (awaited_by after) (read_bytes (drop j key)) a.next e;
      }

  pub string_closed : (step : Result (Option (ℕ × ℕ)) Fault) → step ≡ step_at i (drop i key) → step ≡ Ok None → (t : Bool) → t ≡ ended (awaited_by state) → Some (i, t) ≡ strung_as at (read_bytes (drop at key))
  unfolding strung_from fed_all escape_body
  string_closed step e f t g =
      let q = closed_reads i (drop i key) (sym e ∙ f) in
      let z : i ≡ i + 0 = omega arith in
      sym (w.whole ∙ ap (strung_from i (awaited_by state)) q.1 ∙ ap (λ (k : ℕ). Some (k, ended (awaited_by state))) (sym z) ∙ ap (λ (u : Bool). Some (i, u)) (sym g))

  pub string_bad : (step : Result (Option (ℕ × ℕ)) Fault) → step ≡ step_at i (drop i key) → (v : Fault) → step ≡ Err v → None ≡ strung_as at (read_bytes (drop at key))
  unfolding strung_from
  string_bad step e v f = sym (w.whole ∙ ap (strung_from i (awaited_by state)) (bad-reads i (drop i key) v (sym e ∙ f)))
