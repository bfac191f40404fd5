-- The step over pairs, taken up within the versions of a user key. Assumes nothing.
use Prim.Native.Nat.{ℕ}
use mathlib.Core.Path.{◌≡◌, refl, sym, ap, ◌∙◌}
use mathlib.Core.Bool.{Bool, true, false, not}
use Rattle.std.specs.Prelude.{Option, None, Some}
use mathlib.Core.List.{List, [], ◌∷◌}
use Rattle.std.specs.declared.cmp.Ordering.{Ordering}
use Rattle.std.specs.declared.cmp.Ordering.TheVariants.{Less, Equal, Greater}
use Rattle.keycode.specs.Tests.{pick}
use Rattle.keycode.specs.Order.{compare_bytes}
use Rattle.keycode.specs.Strings.{escape_body, unescaped}
use Rattle.keycode.proofs.Basics.{nope}
use Rattle.keycode.proofs.OrderLaws.{compare_refl, compare_equal, compare_trans}
use Rattle.keycode.proofs.StringLaws.{unescaped_body}
use Rattle.bitcask.specs.keydir.Place.{All, all_none, all_more}
use Rattle.bitcask.specs.recovery.Map.{Pair as MapPair}
use Rattle.bitcask.specs.engine.Rows.{Row, pairs}
use Rattle.mvcc.specs.declared.handle.Handle.{Handle}
use Rattle.bitcask.proofs.engine.PrefixLaws.{same_tests}
use Rattle.mvcc.specs.walk.Walks.{is_equal}
use Rattle.mvcc.specs.scan.Steps.{Stamp, stamp_of, Given, Sight, hidden, gone, bad, shows, sight_of, same_user, is_of, any_of, sight_for, or_sight, highest, clean_by, clean_to, step_by, step_on, step_pairs}
use Rattle.mvcc.proofs.scan.NameLaws.{Spelt, spelt, users_rise}

-- ---- sights

or_assoc : (a b c : Sight) → or_sight a (or_sight b c) ≡ or_sight (or_sight a b) c
or_assoc hidden b c = refl
or_assoc gone b c = refl
or_assoc bad b c = refl
or_assoc (shows g) b c = refl

-- a key's versions, from the first on and from the second on
step_twice : (c : Bool) (z x : Sight) (r : Option (Option Given)) → step_by c (or_sight z x) r ≡ step_by c (or_sight z x) (step_by c z r)
step_twice c hidden x r = refl
step_twice c gone x r = refl
step_twice c bad x r = refl
step_twice c (shows g) x r = refl

step_unclean : (x : Sight) → step_by false x None ≡ None
step_unclean hidden = refl
step_unclean gone = refl
step_unclean bad = refl
step_unclean (shows g) = refl

-- behind a key that is no Version key
step_junk : (b : Bool) (y x : Sight) → (b ≡ false → y ≡ hidden) → step_by (not b) (or_sight (or_sight y hidden) x) None ≡ pick b None (step_by true x None)
step_junk true y x f = step_unclean (or_sight (or_sight y hidden) x)
step_junk false y x f = rw (f refl)

-- ---- user keys

pub user-same : (a b : List ℕ) → same_user a b ≡ true → a ≡ b
user-same a b e = compare_equal a b (go (compare_bytes a b) e)
  where
    go : (o : Ordering) → is_equal o ≡ true → o ≡ Equal
    go Less q = nope (cc)
    go Equal q = refl
    go Greater q = nope (cc)

same-user : (a b : List ℕ) → a ≡ b → same_user a b ≡ true
same-user a b e = ap (same_user a) (sym e) ∙ ap is_equal (compare_refl a)

-- the code compares them escaped
pub same_users : (a b : List ℕ) → same_user (escape_body a) (escape_body b) ≡ same_user a b
same_users a b =
    same_tests (same_user (escape_body a) (escape_body b)) (same_user a b)
    (λ e. same-user a b (sym (unescaped_body a).0 ∙ ap unescaped (user-same (escape_body a) (escape_body b) e) ∙ (unescaped_body b).0))
    (λ e. same-user (escape_body a) (escape_body b) (ap escape_body (user-same a b e)))

-- ---- a user key that pairs hold no version of

module _ (h : Handle) (k : List ℕ) where
  any_hidden : (m : List MapPair) → any_of k m ≡ false → highest h k m ≡ hidden
  unfolding any_of highest
  any_hidden [] e = refl
  any_hidden (q ∷ m) e = go (stamp_of q.key) e (λ f. any_hidden m f)
    where
      by : (b : Bool) (x : Sight) → pick b true (any_of k m) ≡ false → (any_of k m ≡ false → highest h k m ≡ hidden) → or_sight (highest h k m) (pick b x hidden) ≡ hidden
      by true x f ih = nope (cc)
      by false x f ih = rw (ih f)

      go : (o : Option Stamp) → pick (is_of k o) true (any_of k m) ≡ false → (any_of k m ≡ false → highest h k m ≡ hidden) → or_sight (highest h k m) (sight_for h k q.value o) ≡ hidden
      go None f ih = rw (ih f)
      go (Some z) f ih = by (same_user k z.user) (sight_of h z q.value) f ih

  any_clean : (m : List MapPair) → any_of k m ≡ false → clean_to k m ≡ true
  unfolding any_of clean_to
  any_clean [] e = refl
  any_clean (q ∷ m) e = go (stamp_of q.key) e (λ f. any_clean m f)
    where
      by : (b : Bool) → pick b true (any_of k m) ≡ false → any_of k m ≡ false
      by true f = nope (cc)
      by false f = f

      go : (o : Option Stamp) → pick (is_of k o) true (any_of k m) ≡ false → (any_of k m ≡ false → clean_to k m ≡ true) → clean_by o (any_of k m) (clean_to k m) ≡ true
      go None f ih = ap not f
      go (Some z) f ih = ih (by (same_user k z.user) f)

-- past a key of a later user key there is none
module _ {b c : List ℕ} {s t : Stamp} (x : Spelt b s) (y : Spelt c t) (l : compare_bytes b c ≡ Less) (d : same_user s.user t.user ≡ false) where
  users_less : compare_bytes s.user t.user ≡ Less
  users_less = go (compare_bytes s.user t.user) refl
    where
      go : (o : Ordering) → compare_bytes s.user t.user ≡ o → o ≡ Less
      go Less e = refl
      go Equal e = let z : true ≡ false = ap is_equal (sym e) ∙ d in nope (cc)
      go Greater e = absurd (users_rise x y l e)

  behind_less : {r : List ℕ} {w : Stamp} → Spelt r w → compare_bytes c r ≡ Less → compare_bytes s.user w.user ≡ Less
  behind_less {r} {w} v e = go (compare_bytes t.user w.user) refl
    where
      go : (o : Ordering) → compare_bytes t.user w.user ≡ o → compare_bytes s.user w.user ≡ Less
      go Less q = compare_trans s.user t.user w.user users_less q
      go Equal q = ap (compare_bytes s.user) (sym (compare_equal t.user w.user q)) ∙ users_less
      go Greater q = absurd (users_rise y v e q)

  behind-other : (r : Row) → compare_bytes c r.key ≡ Less → is_of s.user (stamp_of r.key) ≡ false
  behind-other r e = go (stamp_of r.key) refl
    where
      go : (o : Option Stamp) → stamp_of r.key ≡ o → is_of s.user o ≡ false
      go None q = refl
      go (Some w) q = ap is_equal (behind_less (spelt r.key w q) e)

  pub none_left : {rs : List Row} → All (λ (r : Row). compare_bytes c r.key ≡ Less) rs → any_of s.user (pairs rs) ≡ false
  unfolding any_of pairs
  none_left all_none = refl
  none_left (all_more {x = r} e a) = rw (behind-other r e) (none_left a)

-- ---- the step from within a user key's versions on

-- of which x is the highest so far
unfoldable pub onward : Handle → List ℕ → Sight → List MapPair → Option (Option Given)
onward h u x m = step_by (clean_to u m) (or_sight (highest h u m) x) (step_pairs h m)

module _ (h : Handle) (q : MapPair) (m : List MapPair) where
  -- a pair more, by its stamp
  high_by : (k : List ℕ) (z : Stamp) (b : Bool) → stamp_of q.key ≡ Some z → same_user k z.user ≡ b → highest h k (q ∷ m) ≡ or_sight (highest h k m) (pick b (sight_of h z q.value) hidden)
  unfolding highest
  high_by k z b e f =
      ap (λ (o : Option Stamp). or_sight (highest h k m) (sight_for h k q.value o)) e
      ∙ ap (λ (t : Bool). or_sight (highest h k m) (pick t (sight_of h z q.value) hidden)) f

  clean_by_lem : (k : List ℕ) (z : Stamp) → stamp_of q.key ≡ Some z → clean_to k (q ∷ m) ≡ clean_to k m
  unfolding clean_to
  clean_by_lem k z e = ap (λ (o : Option Stamp). clean_by o (any_of k m) (clean_to k m)) e

  pub step-first : (z : Stamp) → stamp_of q.key ≡ Some z → step_pairs h (q ∷ m) ≡ onward h z.user (sight_of h z q.value) m
  unfolding step_pairs onward
  step-first z e =
      ap (λ (o : Option Stamp). step_on h q m o (step_pairs h m)) e
      ∙ ap (λ (x : Sight). step_by (clean_to z.user m) x (step_pairs h m)) (high_by z.user z true e (same-user z.user z.user refl))

  module _ (u : List ℕ) (x : Sight) where
    pub on_junk : stamp_of q.key ≡ None → onward h u x (q ∷ m) ≡ pick (any_of u m) None (step_by true x None)
    unfolding onward step_pairs highest clean_to
    on_junk e = rw e (step_junk (any_of u m) (highest h u m) x (any_hidden h u m))

    on_pair : (z : Stamp) (b : Bool) → stamp_of q.key ≡ Some z → same_user u z.user ≡ b
        → onward h u x (q ∷ m) ≡ step_by (clean_to u m) (or_sight (or_sight (highest h u m) (pick b (sight_of h z q.value) hidden)) x) (onward h z.user (sight_of h z q.value) m)
    unfolding onward
    on_pair z b e f = λ j. step_by (clean_by_lem u z e j) (or_sight (high_by u z b e f j) x) (step-first z e j)

    pub on_same : (z : Stamp) → stamp_of q.key ≡ Some z → u ≡ z.user → onward h u (or_sight (sight_of h z q.value) x) m ≡ onward h u x (q ∷ m)
    unfolding onward
    on_same z e f =
        let c : Bool = clean_to u m in
        let y : Sight = sight_of h z q.value in
        ap (λ (w : Sight). step_by c w (step_pairs h m)) (or_assoc (highest h u m) y x)
        ∙ step_twice c (or_sight (highest h u m) y) x (step_pairs h m)
        ∙ ap (λ (k : List ℕ). step_by c (or_sight (or_sight (highest h u m) y) x) (onward h k y m)) f
        ∙ sym (on_pair z true e (same-user u z.user f))

    pub on_other : (z : Stamp) → stamp_of q.key ≡ Some z → same_user u z.user ≡ false → any_of u m ≡ false → step_by true x (onward h z.user (sight_of h z q.value) m) ≡ onward h u x (q ∷ m)
    on_other z e d f =
        let o : Option (Option Given) = onward h z.user (sight_of h z q.value) m in
        sym (on_pair z false e d
        ∙ ap (λ (t : Bool). step_by t (or_sight (or_sight (highest h u m) hidden) x) o) (any_clean h u m f)
        ∙ ap (λ (y : Sight). step_by true (or_sight (or_sight y hidden) x) o) (any_hidden h u m f))
