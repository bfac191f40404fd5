-- Look-ups in a map of records after one was put in, and after some were taken out. Assumes nothing.
use Prim.Native.Nat.{Ordering}
use mathlib.Core.Path.{◌≡◌, refl, sym, ◌∙◌, ap, subst}
use mathlib.Core.Bool.{Bool, true, false, not, ◌||◌}
use mathlib.Core.Logic.{◌≢◌, if_pos, if_neg, by_cases}
use Rattle.std.specs.Prelude.{Option, None, Some}
use mathlib.Core.List.{List, [], ◌∷◌}
use Rattle.keycode.specs.key.Keys.{Fields}
use Rattle.isolation.specs.history.Records.{fields≟, Rec, key_of, Map, look, without, put, place, is_yes, del_all, Above, above_nil, above_cons, Sorted, sorted_nil, sorted_cons, Order}
use Rattle.isolation.specs.history.History.{keep}
use Rattle.isolation.proofs.history.FactLaws.{nope}

pub look-here : (r : Rec) (m : Map) → look (r ∷ m) (key_of r) ≡ Some r
unfolding look
look-here r m = if_pos (fields≟ (key_of r) (key_of r)) refl (Some r) (look m (key_of r))

pub look-past : (r : Rec) (m : Map) {K : Fields} → key_of r ≢ K → look (r ∷ m) K ≡ look m K
unfolding look
look-past r m {K} n = if_neg (fields≟ (key_of r) K) n (Some r) (look m K)

pub look-without : (p : Fields → Bool) (m : Map) (K : Fields) → look (without p m) K ≡ keep (not (p K)) (look m K)
unfolding look without
look-without p [] K = go (not (p K))
  where
    go : (b : Bool) → None ≡ keep {A = Rec} b None
    go true = refl
    go false = refl
look-without p (r ∷ m) K = go (p (key_of r)) refl (fields≟ (key_of r) K) (look-without p m K)
  where
    go : (b : Bool) → p (key_of r) ≡ b → Dec (key_of r ≡ K) → look (without p m) K ≡ keep (not (p K)) (look m K) → look (elim b [ true ↦ without p m | false ↦ r ∷ without p m ]) K ≡ keep (not (p K)) (look (r ∷ m) K)
    go true e (yes q) i = let z : p K ≡ true = ap p (sym q) ∙ e in i ∙ rw z
    go true e (no n) i = i ∙ rw (look-past r m n)
    go false e (yes q) i = rw (← q, e, look-here r (without p m), look-here r m)
    go false e (no n) i = look-past r (without p m) n ∙ i ∙ rw (look-past r m n)

module _ {cmp : Fields → Fields → Ordering} (L : Order cmp) where
  pub look-put : (r : Rec) (m : Map) → look (put cmp r m) (key_of r) ≡ Some r
  unfolding put
  look-put r [] = look-here r []
  look-put r (e ∷ m) = go (cmp (key_of r) (key_of e)) refl (look-put r m)
    where
      go : (o : Ordering) → cmp (key_of r) (key_of e) ≡ o → look (put cmp r m) (key_of r) ≡ Some r → look (place o r e m (put cmp r m)) (key_of r) ≡ Some r
      go Ordering.lt q i = look-here r (e ∷ m)
      go Ordering.eq q i = look-here r m
      go Ordering.gt q i = look-past e (put cmp r m) (λ z. nope (cc (L.itself (key_of r)))) ∙ i

  pub look_put_other : (r : Rec) (m : Map) {K : Fields} → key_of r ≢ K → look (put cmp r m) K ≡ look m K
  unfolding put
  look_put_other r [] n = look-past r [] n
  look_put_other r (e ∷ m) {K} n = go (cmp (key_of r) (key_of e)) refl (look_put_other r m n)
    where
      go : (o : Ordering) → cmp (key_of r) (key_of e) ≡ o → look (put cmp r m) K ≡ look m K → look (place o r e m (put cmp r m)) K ≡ look (e ∷ m) K
      go Ordering.lt q i = look-past r (e ∷ m) n
      go Ordering.eq q i = look-past r m n ∙ sym (look-past e m (λ z. n (L.same (key_of r) (key_of e) q ∙ z)))
      go Ordering.gt q i = by_cases (fields≟ (key_of e) K) (λ z. rw (← z) (look-here e (put cmp r m) ∙ sym (look-here e m))) (λ z. look-past e (put cmp r m) z ∙ i ∙ sym (look-past e m z))

  pub above_trans : (K J : Fields) → cmp K J ≡ Ordering.lt → {m : Map} → Above cmp J m → Above cmp K m
  above_trans K J l above_nil = above_nil
  above_trans K J l (above_cons {r = r} q a) = above_cons (L.trans K J (key_of r) l q) (above_trans K J l a)

  above_put : (K : Fields) (r : Rec) (m : Map) → cmp K (key_of r) ≡ Ordering.lt → Above cmp K m → Above cmp K (put cmp r m)
  unfolding put
  above_put K r [] l a = above_cons l above_nil
  above_put K r (e ∷ m) l (above_cons q a) = go (cmp (key_of r) (key_of e)) (above_put K r m l a)
    where
      go : (o : Ordering) → Above cmp K (put cmp r m) → Above cmp K (place o r e m (put cmp r m))
      go Ordering.lt i = above_cons l (above_cons q a)
      go Ordering.eq i = above_cons l a
      go Ordering.gt i = above_cons q i

  pub sorted-put : (r : Rec) (m : Map) → Sorted cmp m → Sorted cmp (put cmp r m)
  unfolding put
  sorted-put r [] s = sorted_cons above_nil sorted_nil
  sorted-put r (e ∷ m) (sorted_cons a s) = go (cmp (key_of r) (key_of e)) refl (sorted-put r m s)
    where
      go : (o : Ordering) → cmp (key_of r) (key_of e) ≡ o → Sorted cmp (put cmp r m) → Sorted cmp (place o r e m (put cmp r m))
      go Ordering.lt q i = sorted_cons (above_cons q (above_trans (key_of r) (key_of e) q a)) (sorted_cons a s)
      go Ordering.eq q i = sorted_cons (subst (λ K. Above cmp K m) (sym (L.same (key_of r) (key_of e) q)) a) s
      go Ordering.gt q i = sorted_cons (above_put (key_of e) r m (L.flip (key_of r) (key_of e) q) a) i

  above_without : (K : Fields) (p : Fields → Bool) {m : Map} → Above cmp K m → Above cmp K (without p m)
  unfolding without
  above_without K p above_nil = above_nil
  above_without K p (above_cons {r = r} {m = m} q a) = go (p (key_of r)) (above_without K p a)
    where
      go : (b : Bool) → Above cmp K (without p m) → Above cmp K (elim b [ true ↦ without p m | false ↦ r ∷ without p m ])
      go true i = i
      go false i = above_cons q i

  pub sorted-without : (p : Fields → Bool) {m : Map} → Sorted cmp m → Sorted cmp (without p m)
  unfolding without
  sorted-without p sorted_nil = sorted_nil
  sorted-without p (sorted_cons {r = r} {m = m} a s) = go (p (key_of r)) (sorted-without p s)
    where
      go : (b : Bool) → Sorted cmp (without p m) → Sorted cmp (elim b [ true ↦ without p m | false ↦ r ∷ without p m ])
      go true i = i
      go false i = sorted_cons (above_without (key_of r) p a) i

abbrev pub mem_k : Fields → List Fields → Bool
mem_k K [] = false
mem_k K (J ∷ Js) = is_yes (fields≟ K J) || mem_k K Js

keep_twice : (a b : Bool) (y : Option Rec) → keep (not b) (keep (not a) y) ≡ keep (not (a || b)) y
keep_twice true true y = refl
keep_twice true false y = refl
keep_twice false b y = refl

pub look-del_all : (Ks : List Fields) (m : Map) (K : Fields) → look (del_all Ks m) K ≡ keep (not (mem_k K Ks)) (look m K)
unfolding del_all
look-del_all [] m K = refl
look-del_all (J ∷ Js) m K = look-del_all Js (without (λ I. is_yes (fields≟ I J)) m) K ∙ ap (keep (not (mem_k K Js))) (look-without (λ I. is_yes (fields≟ I J)) m K) ∙ keep_twice (is_yes (fields≟ K J)) (mem_k K Js) (look m K)

pub sorted-del_all : {cmp : Fields → Fields → Ordering} → Order cmp → (Ks : List Fields) {m : Map} → Sorted cmp m → Sorted cmp (del_all Ks m)
unfolding del_all
sorted-del_all L [] s = s
sorted-del_all L (K ∷ Ks) s = sorted-del_all L Ks (sorted-without L (λ J. is_yes (fields≟ J K)) s)

pub is_no : (K J : Fields) → K ≢ J → is_yes (fields≟ K J) ≡ false
is_no K J n = go (fields≟ K J)
  where
    go : (d : Dec (K ≡ J)) → is_yes d ≡ false
    go (yes p) = absurd (n p)
    go (no q) = refl

pub is_yes_lem : (K : Fields) → is_yes (fields≟ K K) ≡ true
is_yes_lem K = go (fields≟ K K)
  where
    go : (d : Dec (K ≡ K)) → is_yes d ≡ true
    go (yes p) = refl
    go (no q) = absurd (q refl)
