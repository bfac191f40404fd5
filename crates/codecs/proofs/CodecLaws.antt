-- A codec: bytes of a value, how they are read, and their order. Two codecs, one behind the other, are one; so a row is one, by induction
-- over its kinds. Assumes nothing.
use Prim.Native.Nat.{ℕ, suc}
use mathlib.Core.Path.{◌≡◌, refl, sym, ap, subst, ◌∙◌}
use mathlib.Core.List.{List, [], ◌∷◌, ◌++◌, append_assoc}
use Rattle.std.specs.declared.cmp.Ordering.{Ordering}
use Rattle.std.specs.declared.cmp.Ordering.TheVariants.{Less, Equal}
use Rattle.keycode.specs.Order.{compare_bytes, and_then}
use Rattle.codecs.specs.Denials.{Got, got, bad, map_got, before, then_got}
use Rattle.keycode.proofs.Basics.{nope}
use Rattle.keycode.proofs.NumberLaws.{Bytes}
use Rattle.keycode.proofs.OrderLaws.{flip, compare_flip, compare_refl, compare_equal, compare_trans}
use Rattle.keycode.proofs.SortLaws.{Sorts, both_sort, alone}

-- reading gives the value and what stands behind it; where a value is read, its bytes stood there; and the bytes sort as the values do,
-- whatever follows them
pub record Codec {A : Type 0} (Good : A → Type 0) (enc : A → List ℕ) (dec : List ℕ → Got A) (cmp : A → A → Ordering) : Type 0 where
  pub reads : (a : A) → Good a → (rest : List ℕ) → dec (enc a ++ rest) ≡ got a rest
  pub stood : (b : List ℕ) → Bytes b → (a : A) (rest : List ℕ) → dec b ≡ got a rest → (b ≡ enc a ++ rest) × Good a
  pub sorts : Sorts Good enc cmp

-- bytes behind bytes are bytes
pub bytes-behind : (p q : List ℕ) → Bytes (p ++ q) → Bytes q
bytes-behind [] q b i = b i
bytes-behind (x ∷ p) q b i = bytes-behind p q (λ j. b (suc j)) i

-- ---- inversions

pub map-got : {A B : Type 0} (f : A → B) (g : Got A) (b : B) (r : List ℕ) → map_got f g ≡ got b r → (a : A) × (g ≡ got a r) × (f a ≡ b)
unfolding map_got
map-got f (got a s) b r e = let q : s ≡ r = cc in (a, ap (got a) q, cc)
map-got f (bad d) b r e = nope (cc)

before-got : {A B : Type 0} (a : A) (g : Got B) (v : A × B) (r : List ℕ) → before a g ≡ got v r → (b : B) × (g ≡ got b r) × ((a, b) ≡ v)
unfolding before
before-got a (got b s) v r e = let q : s ≡ r = cc in (b, ap (got b) q, cc)
before-got a (bad d) v r e = nope (cc)

pub then_got_lem : {A B : Type 0} (g : Got A) (f : List ℕ → Got B) (v : A × B) (r : List ℕ) → then_got g f ≡ got v r
    → (a : A) × (s : List ℕ) × (b : B) × (g ≡ got a s) × (f s ≡ got b r) × ((a, b) ≡ v)
unfolding then_got
then_got_lem (got a s) f v r e = let q = before-got a (f s) v r e in (a, s, q.0, refl, q.1, q.2)
then_got_lem (bad d) f v r e = nope (cc)

-- ---- nothing, and two behind each other

pub nothing : Codec (λ (u : Unit {0}). Unit {0}) (λ u. []) (λ b. got tt b) (λ u v. Equal)
nothing =
    record {
      reads = λ a h rest. refl;
      stood = λ b w a rest e. let q : b ≡ rest = cc in (q, tt);
      sorts = record { sorted = λ a b h g s t. refl };
    }

module _ {A B : Type 0} {P : A → Type 0} {Q : B → Type 0} {f : A → List ℕ} {g : B → List ℕ} {d : List ℕ → Got A} {e : List ℕ → Got B} {p : A → A → Ordering} {q : B → B → Ordering}
    (c : Codec P f d p) (k : Codec Q g e q) where
  both_reads : (v : A × B) → P v.0 × Q v.1 → (rest : List ℕ) → then_got (d (f v.0 ++ g v.1 ++ rest)) e ≡ got v rest
  unfolding then_got before
  both_reads v h rest = rw (append_assoc (f v.0) (g v.1) rest, c.reads v.0 h.0 (g v.1 ++ rest), k.reads v.1 h.1 rest)

  both_stood : (b : List ℕ) → Bytes b → (v : A × B) (rest : List ℕ) → then_got (d b) e ≡ got v rest → (b ≡ f v.0 ++ g v.1 ++ rest) × (P v.0 × Q v.1)
  both_stood b w v rest h =
      let t = then_got_lem (d b) e v rest h in
      let x = c.stood b w t.0 t.1 t.3 in
      let y = k.stood t.1 (bytes-behind (f t.0) t.1 (subst_bytes x.0 w)) t.2 rest t.4 in
      moved t.5 (x.0 ∙ ap (λ (r : List ℕ). f t.0 ++ r) y.0 ∙ sym (append_assoc (f t.0) (g t.2) rest)) x.1 y.1
    where
      subst_bytes : {r s : List ℕ} → r ≡ s → Bytes r → Bytes s
      subst_bytes {r} {s} u z i = rw u at (z i)

      moved : {a : A} {z : B} → (a, z) ≡ v → b ≡ f a ++ g z ++ rest → P a → Q z → (b ≡ f v.0 ++ g v.1 ++ rest) × (P v.0 × Q v.1)
      moved u m n o = subst (λ (x : A × B). (b ≡ f x.0 ++ g x.1 ++ rest) × (P x.0 × Q x.1)) u (m, (n, o))

  pub both : Codec (λ (v : A × B). P v.0 × Q v.1) (λ v. f v.0 ++ g v.1) (λ b. then_got (d b) e) (λ v w. and_then (p v.0 w.0) (q v.1 w.1))
  both = record { reads = both_reads; stood = both_stood; sorts = both_sort c.sorts k.sorts }

-- ---- a codec by way of another

-- the values of one as values of the other, and back
pub record Through {A B : Type 0} (P : A → Type 0) (Q : B → Type 0) (p : A → A → Ordering) (q : B → B → Ordering) (to : B → A) (from : A → B) : Type 0 where
  pub back : (b : B) → Q b → from (to b) ≡ b
  pub forth : (a : A) → P a → to (from a) ≡ a
  pub good : (b : B) → Q b → P (to b)
  pub fine : (a : A) → P a → Q (from a)
  pub alike : (b c : B) → Q b → Q c → p (to b) (to c) ≡ q b c

module _ {A B : Type 0} {P : A → Type 0} {Q : B → Type 0} {f : A → List ℕ} {d : List ℕ → Got A} {p : A → A → Ordering} {q : B → B → Ordering} {to : B → A} {from : A → B}
    (c : Codec P f d p) (t : Through P Q p q to from) where
  through_reads : (b : B) → Q b → (rest : List ℕ) → map_got from (d (f (to b) ++ rest)) ≡ got b rest
  unfolding map_got
  through_reads b h rest = rw (c.reads (to b) (t.good b h) rest, t.back b h)

  through_stood : (s : List ℕ) → Bytes s → (b : B) (rest : List ℕ) → map_got from (d s) ≡ got b rest → (s ≡ f (to b) ++ rest) × Q b
  through_stood s w b rest h =
      let m = map-got from (d s) b rest h in
      let x = c.stood s w m.0 rest m.1 in
      let y : f m.0 ≡ f (to b) = ap f (sym (t.forth m.0 x.1) ∙ ap to m.2) in
      (x.0 ∙ ap (λ (r : List ℕ). r ++ rest) y, subst Q m.2 (t.fine m.0 x.1))

  pub through : Codec Q (λ b. f (to b)) (λ s. map_got from (d s)) q
  through =
      record {
        reads = through_reads;
        stood = through_stood;
        sorts = record {
          sorted = λ b z h g s r. c.sorts.sorted (to b) (to z) (t.good b h) (t.good z g) s r ∙ ap (λ (o : Ordering). and_then o (compare_bytes s r)) (t.alike b z h g);
        };
      }

-- ---- the order of a codec's values is total, since that of their bytes is

pub record TotalOrder {A : Type 0} (Good : A → Type 0) (cmp : A → A → Ordering) : Type 0 where
  pub self : (a : A) → Good a → cmp a a ≡ Equal
  pub only : (a b : A) → Good a → Good b → cmp a b ≡ Equal → a ≡ b
  pub flips : (a b : A) → Good a → Good b → cmp b a ≡ flip (cmp a b)
  pub chains : (a b c : A) → Good a → Good b → Good c → cmp a b ≡ Less → cmp b c ≡ Less → cmp a c ≡ Less

module _ {A : Type 0} {P : A → Type 0} {f : A → List ℕ} {d : List ℕ → Got A} {p : A → A → Ordering} (c : Codec P f d p) where
  -- values of the same bytes are one
  same_bytes : (a b : A) → P a → P b → f a ≡ f b → a ≡ b
  same_bytes a b h g e =
      let q : got a [] ≡ got b [] = sym (c.reads a h []) ∙ ap (λ (s : List ℕ). d (s ++ [])) e ∙ c.reads b g [] in
      cc

  by_bytes : (a b : A) → P a → P b → compare_bytes (f a) (f b) ≡ p a b
  by_bytes a b h g = alone c.sorts a b h g

  pub codec_total : TotalOrder P p
  codec_total =
      record {
        self = λ a h. sym (by_bytes a a h h) ∙ compare_refl (f a);
        only = λ a b h g e. same_bytes a b h g (compare_equal (f a) (f b) (by_bytes a b h g ∙ e));
        flips = λ a b h g. sym (by_bytes b a g h) ∙ compare_flip (f a) (f b) ∙ ap flip (by_bytes a b h g);
        chains = λ a b z h g k e o. sym (by_bytes a z h k) ∙ compare_trans (f a) (f b) (f z) (by_bytes a b h g ∙ e) (by_bytes b z g k ∙ o);
      }
