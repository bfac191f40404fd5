-- Laws of escaped strings: what a step over one escaped byte says, the turns of the loops that escape, scan and unescape, and that
-- escaping and unescaping undo each other. Assumes nothing.
use Prim.Native.Nat.{ℕ, zero, suc, ◌+◌, ◌-◌, ◌*◌, ◌≤◌, ◌<◌}
use mathlib.Core.Path.{◌≡◌, refl, sym, ap, ◌∙◌}
use mathlib.Core.Bool.{Bool, true, false}
use mathlib.Core.List.{List, [], ◌∷◌, ◌++◌, append_assoc}
use native.Mathlib.Nat.{add_assoc, add-zero, zero-add}
use native.Mathlib.Decide.{dec_lt}
use native.Mathlib.Omega.{arith}
use native.Mathlib.Numerals.{add-one, towards_suc}
use lib.ListN.{length, drop, get_or, set, length-append, length-drop, drop_of_length-le}
use lib.Seq.{drop-cons, drop-drop}
use lib.Dec.{eqb, leb}
use borrow.Author.Tests.{ne_eqb, eqb-true, le-leb, lt-leb, leb-true}
use Rattle.std.specs.Prelude.{Ok, Err, Result, Option, Some, None, ℕ}
use Rattle.std.specs.List.{sum_by, fold}
use Rattle.keycode.specs.declared.refusal.Refusal.TheVariants.{BadStore}
use Rattle.keycode.specs.declared.strings.Fault.{Fault}
use Rattle.keycode.specs.declared.strings.Reason.TheVariants.{BadEscape, NoEnd, OverLimit}
use Rattle.keycode.specs.Tests.{pick}
use Rattle.keycode.specs.Limits.{max_key}
use Rattle.keycode.specs.Buffer.{put}
use Rattle.keycode.specs.Strings.{escape_byte, escape_body, escape, unescaped, well_escaped, plain_length, fault, step_at, one_more, scanned}
use Rattle.keycode.proofs.Basics.{nope}
use Rattle.keycode.proofs.BufferLaws.{Laying, lay-more, lay-room, set-put, set_put_two, length-put, put-put}

-- ---- one byte, escaped

pub byte_zero : (b : ℕ) → b ≡ 0 → escape_byte b ≡ 0 ∷ 255 ∷ []
unfolding escape_byte
byte_zero b e = rw e

pub byte_other : (b : ℕ) → (b ≡ 0 → ⊥) → escape_byte b ≡ b ∷ []
unfolding escape_byte
byte_other zero h = absurd (h refl)
byte_other (suc n) h = refl

-- it has one byte or two
pub byte_length : (b : ℕ) → (0 < length (escape_byte b)) × (length (escape_byte b) ≤ 2)
unfolding escape_byte
byte_length zero = (omega arith, omega arith)
byte_length (suc n) = (omega arith, omega arith)

module _ (d : List ℕ) (at b : ℕ) (room : at + length (escape_byte b) ≤ length d) where
  pub store_zero : b ≡ 0 → (at + 2 ≡ at + length (escape_byte b)) × (set (set d at b) (at + 1) 255 ≡ put d at (escape_byte b))
  store_zero e =
      let l : length (escape_byte b) ≡ 2 = ap length (byte_zero b e) in
      rw (byte_zero b e) (refl, ap (λ (x : ℕ). set (set d at x) (at + 1) 255) e ∙ set_put_two d at 0 255 (omega arith))

  pub store_other : (b ≡ 0 → ⊥) → (at + 1 ≡ at + length (escape_byte b)) × (set d at b ≡ put d at (escape_byte b))
  store_other n =
      let l : length (escape_byte b) ≡ 1 = ap length (byte_other b n) in
      rw (byte_other b n) (refl, set-put d at b (omega arith))

-- ---- the loops that escape, at index i of the string

pub body_drop : (key : List ℕ) (i : ℕ) → i < length key → escape_body (drop i key) ≡ escape_byte (get_or key i 0) ++ escape_body (drop (i + 1) key)
unfolding escape_body
body_drop key i h = rw (add-one, drop-cons key i 0)

pub body_done : (key : List ℕ) (i : ℕ) → length key ≤ i → escape_body (drop i key) ≡ []
unfolding escape_body
body_done key i h = rw (drop_of_length-le key h)

pub body_sum : (s : List ℕ) → sum_by (λ b. length (escape_byte b)) s ≡ length (escape_body s)
unfolding escape_body
body_sum s = simp zero-add at (from 0 s)
  where
    from : (n : ℕ) (s : List ℕ) → fold (λ a b. a + length (escape_byte b)) n s ≡ n + length (escape_body s)
    from n [] = sym (add-zero n)
    from n (x ∷ s) = from (n + length (escape_byte x)) s ∙ simp (length-append, add_assoc)

pub escape-room : (key : List ℕ) (i : ℕ) {d out : List ℕ} {at o : ℕ} → Laying d at (escape_body key) out o (escape_body (drop i key)) → i < length key → o + length (escape_byte (get_or key i 0)) ≤ length out
escape-room key i w h = lay-room w (escape_byte (get_or key i 0)) (escape_body (drop (i + 1) key)) (body_drop key i h)

pub body_bound : (s : List ℕ) → length (escape_body s) ≤ 2 * length s
unfolding escape_body
body_bound [] = omega arith
body_bound (x ∷ xs) = simp length-append (omega (arith, (byte_length x).1, body_bound xs))

pub escape-length : (s : List ℕ) → length (escape s) ≡ length (escape_body s) + 2
unfolding escape
escape-length s = simp length-append

-- the end, stored behind the body
module _ (key d out : List ℕ) (at o : ℕ) (room : at + length (escape key) ≤ length d) (says : (o ≡ at + length (escape_body key)) × (out ≡ put d at (escape_body key))) where
  pub end_room : o + 2 ≤ length out
  end_room = omega (arith, escape-length key, ap length says.1 ∙ length-put d at (escape_body key) (omega (arith, escape-length key)))

  pub end_store : (o + 2 ≡ at + length (escape key)) × (set (set out o 0) (o + 1) 0 ≡ put d at (escape key))
  unfolding escape
  end_store = (
    omega (arith, escape-length key),
    set_put_two out o 0 0 (omega (arith, end_room)) ∙ rw (says.1, says.0) (put-put d at (escape_body key) (omega (arith, escape-length key)) (0 ∷ 0 ∷ [])),
  )

-- ---- what the code of a step knows

-- what a step answers
abbrev Standing : Type 0
Standing = Result (Option (ℕ × ℕ)) Fault

module _ (s : List ℕ) (i : ℕ) where
  pub step_past : length s ≤ i → Err (fault NoEnd i) ≡ step_at i (drop i s)
  unfolding step_at
  step_past h = rw (drop_of_length-le s h)

  module _ (h : i < length s) where
    pub step_other : (get_or s i 0 ≡ 0 → ⊥) → Ok (Some (get_or s i 0, i + 1)) ≡ step_at i (drop i s)
    step_other n = other (get_or s i 0) n ∙ ap (step_at i) (sym (drop-cons s i 0 h))
      where
        other : (x : ℕ) → (x ≡ 0 → ⊥) → Ok (Some (x, i + 1)) ≡ step_at i (x ∷ drop (suc i) s)
        other zero n = absurd (n refl)
        other (suc x) n = unfold step_at in refl

    module _ (e : get_or s i 0 ≡ 0) where
      pub step-last : length s ≤ i + 1 → Err (fault NoEnd (i + 1)) ≡ step_at i (drop i s)
      unfolding step_at
      step-last g = rw (drop-cons s i 0, e, drop_of_length-le s {i = suc i} (omega arith))

      module _ (g : i + 1 < length s) where
        two : drop i s ≡ 0 ∷ get_or s (i + 1) 0 ∷ drop (i + 2) s
        two = simp towards_suc (rw (drop-cons s i 0, e, drop-cons s (suc i) 0 (omega arith)))

        pub step_closed : get_or s (i + 1) 0 ≡ 0 → Ok None ≡ step_at i (drop i s)
        unfolding step_at
        step_closed f = rw (two, f)

        pub step-zero : get_or s (i + 1) 0 ≡ 255 → Ok (Some (0, i + 2)) ≡ step_at i (drop i s)
        unfolding step_at
        step-zero f = rw (two, f)

        pub step-bad : (get_or s (i + 1) 0 ≡ 0 → ⊥) → (get_or s (i + 1) 0 ≡ 255 → ⊥) → Err (fault BadEscape (i + 1)) ≡ step_at i (drop i s)
        step-bad f k = rw two (bad (get_or s (i + 1) 0) f k)
          where
            bad : (y : ℕ) → (y ≡ 0 → ⊥) → (y ≡ 255 → ⊥) → Err (fault BadEscape (i + 1)) ≡ step_at i (0 ∷ y ∷ drop (i + 2) s)
            bad zero n m = absurd (n refl)
            bad (suc y) n m = unfold step_at in rw (ne_eqb (suc y) 255 m)

-- ---- what a step says: a byte's escaped form stands there, and what each reader makes of it

pub scan_byte : (left i b : ℕ) (t : List ℕ) → scanned left i (escape_byte b ++ t) ≡ one_more left (i + length (escape_byte b) - 1) (λ l. scanned l (i + length (escape_byte b)) t)
unfolding scanned escape_byte
scan_byte left i zero t = let e : i + 2 - 1 ≡ i + 1 = omega arith in rw e
scan_byte left i (suc b) t = let e : i + 1 - 1 ≡ i = omega arith in rw e

pub plain_byte : (b : ℕ) (t : List ℕ) → unescaped (escape_byte b ++ t) ≡ b ∷ unescaped t
unfolding unescaped escape_byte
plain_byte zero t = refl
plain_byte (suc b) t = refl

pub well_byte : (b : ℕ) (t : List ℕ) → well_escaped (escape_byte b ++ t) ≡ well_escaped t
unfolding well_escaped escape_byte
well_byte zero t = refl
well_byte (suc b) t = refl

stepped : (i b j : ℕ) (r : List ℕ) → step_at i r ≡ Ok (Some (b, j)) → (j ≡ i + length (escape_byte b)) × (r ≡ escape_byte b ++ drop (length (escape_byte b)) r)
unfolding step_at escape_byte
stepped i b j [] e = nope (cc)
stepped i b j (zero ∷ []) e = nope (cc)
stepped i b j (zero ∷ zero ∷ r) e = nope (cc)
stepped i b j (zero ∷ suc y ∷ r) e = go (eqb (suc y) 255) refl e
  where
    go : (t : Bool) → eqb (suc y) 255 ≡ t → pick {A = Standing} t (Ok (Some (0, i + 2))) (Err (fault BadEscape (i + 1))) ≡ Ok (Some (b, j))
        → (j ≡ i + length (escape_byte b)) × (0 ∷ suc y ∷ r ≡ escape_byte b ++ drop (length (escape_byte b)) (0 ∷ suc y ∷ r))
    go true f p = let q : ◌≡◌ {A = ℕ × ℕ} (b, j) (0, i + 2) = cc in rw (ap (λ (x : ℕ × ℕ). x.0) q, ap (λ (x : ℕ × ℕ). x.1) q, eqb-true (suc y) 255 f) (refl, refl)
    go false f p = nope (cc)
stepped i b j (suc x ∷ r) e = let q : ◌≡◌ {A = ℕ × ℕ} (b, j) (suc x, i + 1) = cc in rw (ap (λ (x : ℕ × ℕ). x.0) q, ap (λ (x : ℕ × ℕ). x.1) q) (refl, refl)

closed_ill : (i : ℕ) (r : List ℕ) → step_at i r ≡ Ok None → (well_escaped r ≡ false) × ((left : ℕ) → scanned left i r ≡ Ok i)
unfolding step_at well_escaped scanned
closed_ill i [] e = nope (cc)
closed_ill i (zero ∷ []) e = nope (cc)
closed_ill i (zero ∷ zero ∷ r) e = (refl, λ left. refl)
closed_ill i (zero ∷ suc y ∷ r) e = go (eqb (suc y) 255) e
  where
    go : (t : Bool) → pick {A = Standing} t (Ok (Some (0, i + 2))) (Err (fault BadEscape (i + 1))) ≡ Ok None
        → (pick t (well_escaped r) false ≡ false) × ((left : ℕ) → pick t (one_more left (i + 1) (λ l. scanned l (i + 2) r)) (Err (fault BadEscape (i + 1))) ≡ Ok i)
    go true p = nope (cc)
    go false p = nope (cc)
closed_ill i (suc x ∷ r) e = nope (cc)

bad_ill : (i : ℕ) (r : List ℕ) (w : Fault) → step_at i r ≡ Err w → (0 < length r → well_escaped r ≡ false) × ((left : ℕ) → scanned left i r ≡ Err w)
unfolding step_at well_escaped scanned
bad_ill i [] w e = (λ h. absurd (omega arith), λ left. cc)
bad_ill i (zero ∷ []) w e = (λ h. refl, λ left. cc)
bad_ill i (zero ∷ zero ∷ r) w e = nope (cc)
bad_ill i (zero ∷ suc y ∷ r) w e = go (eqb (suc y) 255) e
  where
    go : (t : Bool) → pick {A = Standing} t (Ok (Some (0, i + 2))) (Err (fault BadEscape (i + 1))) ≡ Err w
        → (0 < length (0 ∷ suc y ∷ r) → pick t (well_escaped r) false ≡ false) × ((left : ℕ) → pick t (one_more left (i + 1) (λ l. scanned l (i + 2) r)) (Err (fault BadEscape (i + 1))) ≡ Err w)
    go true p = nope (cc)
    go false p = (λ h. refl, λ left. cc)
bad_ill i (suc x ∷ r) w e = nope (cc)

-- a byte's escaped form stands at index i of s, and j is the index behind it
pub record AtByte (s : List ℕ) (i b j : ℕ) : Type 0 where
  pub next : j ≡ i + length (escape_byte b)
  pub here : drop i s ≡ escape_byte b ++ drop j s
  pub within : j ≤ length s

pub step_on_lem : {s : List ℕ} {i b j : ℕ} → AtByte s i b j → i < j
step_on_lem {s} {i} {b} {j} a = omega (arith, a.next, (byte_length b).0)

-- what each loop knows after a step at index i
module _ (s : List ℕ) (i : ℕ) (h : i ≤ length s) (got : Standing) (e : got ≡ step_at i (drop i s)) where
  pub at_byte : (b j : ℕ) → got ≡ Ok (Some (b, j)) → AtByte s i b j
  at_byte b j p =
      let q = stepped i b j (drop i s) (sym e ∙ p) in
      let d : drop (length (escape_byte b)) (drop i s) ≡ drop j s = drop-drop (length (escape_byte b)) i s ∙ ap (λ (k : ℕ). drop k s) (sym q.0) in
      let f : drop i s ≡ escape_byte b ++ drop j s = q.1 ∙ ap (λ (t : List ℕ). escape_byte b ++ t) d in
      let l : length s - i ≡ length (escape_byte b) + (length s - j) = sym (length-drop i s) ∙ ap length f ∙ length-append (escape_byte b) (drop j s) ∙ ap (λ (k : ℕ). length (escape_byte b) + k) (length-drop j s) in
      record { next = q.0; here = f; within = omega (arith, (byte_length b).0) }

  pub closed_here : got ≡ Ok None → (well_escaped (drop i s) ≡ false) × ((left : ℕ) → scanned left i (drop i s) ≡ Ok i)
  closed_here p = closed_ill i (drop i s) (sym e ∙ p)

  pub bad-here : (w : Fault) → got ≡ Err w → (i < length s → well_escaped (drop i s) ≡ false) × ((left : ℕ) → scanned left i (drop i s) ≡ Err w)
  bad-here w p = let q = bad_ill i (drop i s) w (sym e ∙ p) in (λ g. q.0 (omega (arith, length-drop i s)), q.1)

-- ---- the loop that scans

module _ {s : List ℕ} {i b j : ℕ} (a : AtByte s i b j) (left : ℕ) where
  pub scan_over : left ≡ 0 → scanned left i (drop i s) ≡ Err (fault OverLimit (j - 1))
  scan_over z = rw (a.here, scan_byte left i b (drop j s), z, ← a.next)

  pub scan_on : (left ≡ 0 → ⊥) → scanned left i (drop i s) ≡ scanned (left - 1) j (drop j s)
  scan_on n = rw (a.here, scan_byte left i b (drop j s), ← a.next) (more left n)
    where
      more : (l : ℕ) → (l ≡ 0 → ⊥) → one_more l (j - 1) (λ m. scanned m j (drop j s)) ≡ scanned (l - 1) j (drop j s)
      more zero n = absurd (n refl)
      more (suc l) n = let e : suc l - 1 ≡ l = omega arith in rw e

-- ---- the loop that counts

pub record Counting (s : List ℕ) (n i : ℕ) : Type 0 where
  pub upto : i ≤ length s
  pub few : n ≤ i
  pub well : well_escaped s ≡ well_escaped (drop i s)
  pub plain : length (unescaped s) ≡ n + length (unescaped (drop i s))

module _ {s : List ℕ} {n i : ℕ} (c : Counting s n i) where
  pub count_on : {b j : ℕ} → AtByte s i b j → (i < j) × Counting s (n + 1) j
  count_on {b} {j} a =
      let l : length (unescaped (drop i s)) ≡ suc (length (unescaped (drop j s))) = rw (a.here, plain_byte b (drop j s)) in (
        step_on_lem a,
        record {
          upto = a.within;
          few = omega (arith, step_on_lem a, c.few);
          well = c.well ∙ rw a.here (well_byte b (drop j s));
          plain = omega (arith, c.plain);
        },
      )

  pub count_ill : well_escaped (drop i s) ≡ false → Err BadStore ≡ plain_length s
  unfolding plain_length
  count_ill f = rw (c.well, f)

  module _ (h : length s ≤ i) where
    ended : (well_escaped s ≡ true) × (length (unescaped s) ≡ n)
    unfolding well_escaped unescaped
    ended = let d : drop i s ≡ [] = drop_of_length-le s h in (c.well ∙ rw d, c.plain ∙ rw (d, add-zero))

    pub count-over : max_key < n → Err BadStore ≡ plain_length s
    unfolding plain_length
    count-over g = let q = ended in rw (q.0, q.1, lt-leb n max_key g)

    pub count_done : n ≤ max_key → Ok n ≡ plain_length s
    unfolding plain_length
    count_done g = let q = ended in rw (q.0, q.1, le-leb n max_key g)

-- what the count says
pub plain_done : (s : List ℕ) (n : ℕ) → plain_length s ≡ Ok n → (well_escaped s ≡ true) × (n ≡ length (unescaped s)) × (n ≤ max_key)
unfolding plain_length
plain_done s n = go (well_escaped s) (leb (length (unescaped s)) max_key) refl
  where
    go : (t u : Bool) → leb (length (unescaped s)) max_key ≡ u → pick t (pick u (Ok (length (unescaped s))) (Err BadStore)) (Err BadStore) ≡ Ok n
        → (t ≡ true) × (n ≡ length (unescaped s)) × (n ≤ max_key)
    go true true f p = let e : n ≡ length (unescaped s) = cc in (refl, e, omega (arith, leb-true (length (unescaped s)) max_key f))
    go true false f p = nope (cc)
    go false u f p = nope (cc)

-- ---- the loop that unescapes

pub unescape_on : {s d out : List ℕ} {o i b j : ℕ} → AtByte s i b j → Laying d 0 (unescaped s) out o (unescaped (drop i s)) → well_escaped (drop i s) ≡ true
    → (o < length out) × Laying d 0 (unescaped s) (set out o b) (o + 1) (unescaped (drop j s)) × (well_escaped (drop j s) ≡ true)
unescape_on {s} {d} {out} {o} {i} {b} {j} a w t =
    let u : unescaped (drop i s) ≡ (b ∷ []) ++ unescaped (drop j s) = rw a.here (plain_byte b (drop j s)) in
    let r : o + 1 ≤ length out = lay-room w (b ∷ []) (unescaped (drop j s)) u in (
      omega arith,
      lay-more w (b ∷ []) (unescaped (drop j s)) (set out o b) (o + 1) u refl (set-put out o b (omega arith)),
      sym (rw a.here (well_byte b (drop j s))) ∙ t,
    )

pub never : {C : Type 0} {t : Bool} → t ≡ true → t ≡ false → C
never e f = nope (cc)

unescape_all : (s : List ℕ) (i : ℕ) → length s ≤ i → unescaped (drop i s) ≡ []
unfolding unescaped
unescape_all s i h = rw (drop_of_length-le s h)

-- well escaped bytes have a fault nowhere but at their end
pub unescape_bad : (s : List ℕ) (i : ℕ) → i ≤ length s → well_escaped (drop i s) ≡ true → (got : Standing) → got ≡ step_at i (drop i s) → (w : Fault) → got ≡ Err w → unescaped (drop i s) ≡ []
unescape_bad s i h t got e w p = go (dec_lt i (length s))
  where
    go : Dec (i < length s) → unescaped (drop i s) ≡ []
    go (yes g) = never t ((bad-here s i h got e w p).0 g)
    go (no f) = unescape_all s i (omega arith)

-- ---- escaping and unescaping undo each other

pub unescaped_body : (s : List ℕ) → (unescaped (escape_body s) ≡ s) × (well_escaped (escape_body s) ≡ true)
unfolding escape_body unescaped well_escaped
unescaped_body [] = (refl, refl)
unescaped_body (x ∷ s) = let q = unescaped_body s in (rw (plain_byte x (escape_body s), q.0), rw (well_byte x (escape_body s)) q.1)

pub body_unescaped : (r : List ℕ) → well_escaped r ≡ true → escape_body (unescaped r) ≡ r
unfolding well_escaped unescaped escape_body escape_byte
body_unescaped [] e = refl
body_unescaped (zero ∷ []) e = nope (cc)
body_unescaped (zero ∷ zero ∷ r) e = nope (cc)
body_unescaped (zero ∷ suc y ∷ r) e = go (eqb (suc y) 255) refl e (λ f. body_unescaped r f)
  where
    go : (t : Bool) → eqb (suc y) 255 ≡ t → pick t (well_escaped r) false ≡ true → (well_escaped r ≡ true → escape_body (unescaped r) ≡ r) → 0 ∷ 255 ∷ escape_body (unescaped r) ≡ 0 ∷ suc y ∷ r
    go true f p ih = rw (eqb-true (suc y) 255 f, ih p)
    go false f p ih = nope (cc)
body_unescaped (suc x ∷ r) e = rw (body_unescaped r e)

-- a string, its end, and any bytes behind: where it ends, and what it is
pub scanned_body : (s t : List ℕ) (left i : ℕ) → length s ≤ left → scanned left i (escape_body s ++ (0 ∷ 0 ∷ t)) ≡ Ok (i + length (escape_body s))
unfolding scanned escape_body
scanned_body [] t left i h = ap Ok (sym (add-zero i))
scanned_body (x ∷ s) t zero i h = absurd (omega arith)
scanned_body (x ∷ s) t (suc l) i h =
    rw (append_assoc, scan_byte (suc l) i x (escape_body s ++ (0 ∷ 0 ∷ t)))
    (scanned_body s t l (i + length (escape_byte x)) (omega arith) ∙ ap Ok (simp (length-append, add_assoc)))

-- and the other way round: where a scan ends, such a string stands
pub record Found (left i e : ℕ) (r : List ℕ) : Type 0 where
  pub string : List ℕ
  pub rest : List ℕ
  pub here : r ≡ escape_body string ++ (0 ∷ 0 ∷ rest)
  pub ends : e ≡ i + length (escape_body string)
  pub few : length string ≤ left

found_more : (left l i e b : ℕ) (t : List ℕ) → left ≡ suc l → Found l (i + length (escape_byte b)) e t → Found left i e (escape_byte b ++ t)
unfolding escape_body
found_more left l i e b t g f =
    record {
      string = b ∷ f.string;
      rest = f.rest;
      here = ap (λ (x : List ℕ). escape_byte b ++ x) f.here ∙ sym (append_assoc (escape_byte b) (escape_body f.string) (0 ∷ 0 ∷ f.rest));
      ends = simp length-append (omega (arith, f.ends));
      few = omega (arith, f.few);
    }

one_more_lem : (left i e : ℕ) (f : ℕ → Result ℕ Fault) → one_more left i f ≡ Ok e → (l : ℕ) × (left ≡ suc l) × (f l ≡ Ok e)
one_more_lem zero i e f p = nope (cc)
one_more_lem (suc l) i e f p = (l, refl, p)

pub scan_found : (left i e : ℕ) (r : List ℕ) → scanned left i r ≡ Ok e → Found left i e r
unfolding scanned escape_body escape_byte
scan_found left i e [] p = nope (cc)
scan_found left i e (zero ∷ []) p = nope (cc)
scan_found left i e (zero ∷ zero ∷ r) p = let q : i ≡ e = cc in record { string = []; rest = r; here = refl; ends = omega arith; few = omega arith }
scan_found left i e (zero ∷ suc y ∷ r) p = go (eqb (suc y) 255) refl p (λ l f. scan_found l (i + 2) e r f)
  where
    go : (t : Bool) → eqb (suc y) 255 ≡ t → pick t (one_more left (i + 1) (λ l. scanned l (i + 2) r)) (Err (fault BadEscape (i + 1))) ≡ Ok e
        → ((l : ℕ) → scanned l (i + 2) r ≡ Ok e → Found l (i + 2) e r) → Found left i e (0 ∷ suc y ∷ r)
    go true f g ih =
        let q = one_more_lem left (i + 1) e (λ l. scanned l (i + 2) r) g in
        rw (eqb-true (suc y) 255 f) (found_more left q.0 i e 0 r q.1 (ih q.0 q.2))
    go false f g ih = nope (cc)
scan_found left i e (suc x ∷ r) p =
    let q = one_more_lem left i e (λ l. scanned l (i + 1) r) p in
    found_more left q.0 i e (suc x) r q.1 (scan_found q.0 (i + 1) e r q.2)
