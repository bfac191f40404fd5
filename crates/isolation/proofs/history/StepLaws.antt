-- A scan step over records gives the first key that passes and shows a value, in the order of the keys. Assumes nothing.
use Prim.Native.Nat.{ℕ, Ordering}
use mathlib.Core.Path.{◌≡◌, refl, sym, ◌∙◌}
use mathlib.Core.Bool.{Bool, true, false, cond}
use mathlib.Core.Logic.{◌≢◌, by_cases}
use Rattle.std.specs.Prelude.{Option, None, Some}
use mathlib.Core.List.{[], ◌∷◌}
use Rattle.keycode.specs.key.Keys.{Fields, version}
use Rattle.isolation.specs.history.History.{Key, Bytes, key≟}
use Rattle.isolation.specs.history.Records.{Rec, next_rec, active_rec, snap_rec, wrote_rec, ver_rec, plain_rec, key_of, Map, look, Sorted, sorted_nil, sorted_cons, Order, Before}
use Rattle.isolation.proofs.history.FactLaws.{nope}
use Rattle.isolation.specs.history.History.{Sight}
use Rattle.isolation.specs.history.Calls.{item_of}
use Rattle.isolation.proofs.history.MapLaws.{look-past}
use Rattle.isolation.specs.history.Calls.{versions_of, last_of, flat, visible, shown, keys_in, or_later, first_shown, scan_step}
use Rattle.isolation.proofs.history.ScanLaws.{LastIs, last_none, last-at, last-is, above_look}

-- what a scan step answers, in terms of what each key shows
pub data Step (cmp : Fields → Fields → Ordering) (f : Key → Option Bytes) (p : Key → Bool) (r : Option (Key × Bytes)) : Type 0 where
  at_end : r ≡ None → ((k : Key) → p k ≡ true → f k ≡ None) → Step cmp f p r
  at_key : (k : Key) (v : Bytes) → r ≡ Some (k, v) → p k ≡ true → f k ≡ Some v → ((j : Key) → p j ≡ true → f j ≢ None → (j ≢ k) → Before cmp k j) → Step cmp f p r

-- a key that shows a value has a version in the map
pub data HasKey (k : Key) (m : Map) : Type 0 where
  has_key : (x : ℕ) (o : Option Bytes) → look m (version k x) ≡ Some (ver_rec k x o) → HasKey k m

pub shown_has : {cmp : Fields → Fields → Ordering} → Order cmp → {m : Map} → Sorted cmp m → (h : Sight) (k : Key) → shown m h k ≢ None → HasKey k m
unfolding shown
shown_has L {m} s h k n = go (last_of (versions_of (visible h) k m)) n (last-is L (visible h) k s)
  where
    go : (r : Option Rec) → flat (item_of r) ≢ None → LastIs (visible h) k m r → HasKey k m
    go r i (last_none a e) = absurd (i (rw e))
    go r i (last-at x o e t l a) = has_key x o l

data StepIn (cmp : Fields → Fields → Ordering) (f : Key → Option Bytes) (p : Key → Bool) (m : Map) (r : Option (Key × Bytes)) : Type 0 where
  in_end : r ≡ None → ((k : Key) → p k ≡ true → HasKey k m → f k ≡ None) → StepIn cmp f p m r
  in_key : (k : Key) (v : Bytes) → r ≡ Some (k, v) → p k ≡ true → f k ≡ Some v → ((j : Key) → p j ≡ true → HasKey j m → f j ≢ None → j ≢ k → Before cmp k j) → StepIn cmp f p m r

look_nil : (K : Fields) → look [] K ≡ None
unfolding look
look_nil K = refl

narrow : (e : Rec) (m : Map) (k : Key) → ((x : ℕ) → key_of e ≢ version k x) → HasKey k (e ∷ m) → HasKey k m
narrow e m k n (has_key x o l) = has_key x o (sym (look-past e m (n x)) ∙ l)

module _ {cmp : Fields → Fields → Ordering} (L : Order cmp) (f : Key → Option Bytes) (p : Key → Bool) where
  skip : (e : Rec) (m : Map) (r : Option (Key × Bytes)) → ((k : Key) → p k ≡ true → (x : ℕ) → key_of e ≢ version k x) → StepIn cmp f p m r → StepIn cmp f p (e ∷ m) r
  skip e m r n (in_end i a) = in_end i (λ k t h. a k t (narrow e m k (n k t) h))
  skip e m r n (in_key k v i t q a) = in_key k v i t q (λ j u h w d. a j u (narrow e m j (n j u) h) w d)

  step_in_lem : {m : Map} → Sorted cmp m → StepIn cmp f p m (first_shown f (keys_in p m))
  unfolding first_shown keys_in
  step_in_lem sorted_nil = in_end refl (λ k t h. absurd (nothing k h))
    where
      nothing : (k : Key) → HasKey k [] → ⊥
      nothing k (has_key x o l) = nope (cc (look_nil (version k x)))
  step_in_lem (sorted_cons {r = next_rec n} {m = m} a s) = skip (next_rec n) m _ (λ k t x e. nope (cc)) (step_in_lem s)
  step_in_lem (sorted_cons {r = active_rec v} {m = m} a s) = skip (active_rec v) m _ (λ k t x e. nope (cc)) (step_in_lem s)
  step_in_lem (sorted_cons {r = snap_rec v z} {m = m} a s) = skip (snap_rec v z) m _ (λ k t x e. nope (cc)) (step_in_lem s)
  step_in_lem (sorted_cons {r = wrote_rec v j} {m = m} a s) = skip (wrote_rec v j) m _ (λ k t x e. nope (cc)) (step_in_lem s)
  step_in_lem (sorted_cons {r = ver_rec k v o} {m = m} a s) = go (p k) refl (step_in_lem s)
    where
      other : (j : Key) → j ≢ k → HasKey j (ver_rec k v o ∷ m) → HasKey j m
      other j n h = narrow (ver_rec k v o) m j (λ x e. n (cc)) h

      after : (j : Key) → j ≢ k → HasKey j m → Before cmp k j
      after j n (has_key x u l) = L.by_key k j v x (λ e. n (sym e)) (above_look L (version k v) a (version j x) (ver_rec j x u) l)

      has : (z : Option Bytes) → f k ≡ z → p k ≡ true → StepIn cmp f p m (first_shown f (keys_in p m)) → StepIn cmp f p (ver_rec k v o ∷ m) (or_later k z (first_shown f (keys_in p m)))
      has (Some w) e t i = in_key k w refl t e (λ j u h q d. after j d (other j d h))
      has None e t (in_end i b) = in_end i (λ j u h. by_cases (key≟ j k) (λ q. rw q e) (λ q. b j u (other j q h)))
      has None e t (in_key c w i y q b) = in_key c w i y q (λ j u h z d. by_cases (key≟ j k) (λ y. absurd (z (rw y e))) (λ y. b j u (other j y h) z d))

      go : (b : Bool) → p k ≡ b → StepIn cmp f p m (first_shown f (keys_in p m)) → StepIn cmp f p (ver_rec k v o ∷ m) (first_shown f (cond b (k ∷ keys_in p m) (keys_in p m)))
      go true t i = has (f k) refl t i
      go false t i = skip (ver_rec k v o) m _ (λ j u x e. nope (cc)) i
  step_in_lem (sorted_cons {r = plain_rec j b} {m = m} a s) = skip (plain_rec j b) m _ (λ k t x e. nope (cc)) (step_in_lem s)

pub scan_step_lem : {cmp : Fields → Fields → Ordering} → Order cmp → {m : Map} → Sorted cmp m → (h : Sight) (p : Key → Bool) → Step cmp (shown m h) p (scan_step m h p)
unfolding scan_step
scan_step_lem {cmp} L {m} s h p = go (step_in_lem L (shown m h) p s)
  where
    decide : (k : Key) (z : Option Bytes) → shown m h k ≡ z → (HasKey k m → shown m h k ≡ None) → shown m h k ≡ None
    decide k None e q = e
    decide k (Some v) e q = q (shown_has L s h k (λ i. nope (cc)))

    go : {r : Option (Key × Bytes)} → StepIn cmp (shown m h) p m r → Step cmp (shown m h) p r
    go (in_end i a) = at_end i (λ k t. decide k (shown m h k) refl (a k t))
    go (in_key k v i t q a) = at_key k v i t q (λ j u n d. a j u (shown_has L s h j n) n d)
