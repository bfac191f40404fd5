-- Put, delete and look up: what they do to a map's pairs of bytes is what they do to its records. Assumes nothing.
use Prim.Native.Nat.{Ordering}
use Prim.Native.Nat.{ℕ}
use mathlib.Core.Path.{◌≡◌, refl, sym, ap, ◌∙◌, subst}
use mathlib.Core.Bool.{Bool, true}
use mathlib.Core.Logic.{◌≢◌}
use Rattle.std.specs.Prelude.{Option, None, Some}
use mathlib.Core.List.{List, [], ◌∷◌}
use Rattle.std.specs.declared.cmp.Ordering.{Ordering as Way}
use Rattle.std.specs.declared.cmp.Ordering.TheVariants.{Less, Equal, Greater}
use Rattle.keycode.specs.Order.{compare_bytes, by_order}
use Rattle.keycode.proofs.Basics.{nope}
use Rattle.keycode.proofs.OrderLaws.{flip, compare_flip, compare_refl}
use Rattle.keycode.specs.key.Keys.{Fields, encode}
use Rattle.bitcask.specs.recovery.Map.{Pair, look_in, put_in, cut_in, live_in}
use Rattle.bitcask.specs.recovery.Map as Pairs
use Rattle.isolation.specs.history.Store.{is_some}
use Rattle.isolation.specs.history.Records.{fields≟, Rec, key_of, Map, look, without, is_yes, put, place, Above, above_nil, above_cons, Sorted, sorted_nil, sorted_cons}
use Rattle.isolation.proofs.history.MapLaws.{look-here, look-past, above_trans, is_no, is_yes_lem}
use Rattle.isolation.specs.records.Stored.{payload_of, pair_of, pairs_in, ordering_of, key_order}
use Rattle.isolation.proofs.records.OrderLaws.{key_less, less_key, same_bytes, order}

-- ---- put

pub put-pairs : (r : Rec) (m : Map) → put_in (pair_of r) (pairs_in m) ≡ pairs_in (put key_order r m)
unfolding put_in pairs_in put key_order
put-pairs r [] = refl
put-pairs r (e ∷ m) = rw (compare_flip (encode (key_of r)) (encode (key_of e))) (go (compare_bytes (encode (key_of r)) (encode (key_of e))) (put-pairs r m))
  where
    go : (o : Way) → put_in (pair_of r) (pairs_in m) ≡ pairs_in (put key_order r m)
        → by_order (flip o) (pair_of e ∷ put_in (pair_of r) (pairs_in m)) (pair_of r ∷ pairs_in m) (pair_of r ∷ pair_of e ∷ pairs_in m) ≡ pairs_in (place (ordering_of o) r e m (put key_order r m))
    go Less ih = refl
    go Equal ih = refl
    go Greater ih = ap (λ (q : List Pair). pair_of e ∷ q) ih

-- ---- where a key stands, by the first of sorted records

data Stands (K : Fields) (r : Rec) (m : Map) : Type 0 where
  further : compare_bytes (encode (key_of r)) (encode K) ≡ Less → key_of r ≢ K → Stands K r m
  here : compare_bytes (encode (key_of r)) (encode K) ≡ Equal → key_of r ≡ K → Above key_order K m → Stands K r m
  nowhere : compare_bytes (encode (key_of r)) (encode K) ≡ Greater → Above key_order K (r ∷ m) → Stands K r m

other : (J K : Fields) → compare_bytes (encode J) (encode K) ≡ Less → J ≢ K
other J K e q = let z : compare_bytes (encode K) (encode K) ≡ Less = rw q at e in nope (cc (compare_refl (encode K)))

stands : (K : Fields) (r : Rec) {m : Map} → Above key_order (key_of r) m → Stands K r m
stands K r {m} a = go (compare_bytes (encode (key_of r)) (encode K)) refl
  where
    go : (o : Way) → compare_bytes (encode (key_of r)) (encode K) ≡ o → Stands K r m
    go Less e = further e (other (key_of r) K e)
    go Equal e = let q = same_bytes (key_of r) K e in here e q (subst (λ (J : Fields). Above key_order J m) q a)
    go Greater e =
        let l = less_key K (key_of r) (compare_flip (encode (key_of r)) (encode K) ∙ ap flip e) in
        nowhere e (above_cons l (above_trans order K (key_of r) l a))

above_other : (K : Fields) (r : Rec) → key_order K (key_of r) ≡ Ordering.lt → key_of r ≢ K
above_other K r e q = other K (key_of r) (key_less K (key_of r) e) (sym q)

-- ---- delete

-- the key of a record alone
abbrev pub is_key : Fields → Fields → Bool
is_key K J = is_yes (fields≟ J K)

without-here : (K : Fields) (r : Rec) (m : Map) → key_of r ≡ K → without (is_key K) (r ∷ m) ≡ without (is_key K) m
unfolding without
without-here K r m q = let e : is_key K (key_of r) ≡ true = rw q (is_yes_lem K) in rw (e, without)

without-past : (K : Fields) (r : Rec) (m : Map) → key_of r ≢ K → without (is_key K) (r ∷ m) ≡ r ∷ without (is_key K) m
unfolding without
without-past K r m n = rw (is_no (key_of r) K n, without)

without_above : (K : Fields) {m : Map} → Above key_order K m → without (is_key K) m ≡ m
without_above K above_nil = unfold without in refl
without_above K (above_cons {r = r} {m = m} q a) = without-past K r m (above_other K r q) ∙ ap (λ (l : Map). r ∷ l) (without_above K a)

pub cut_pairs : (K : Fields) {m : Map} → Sorted key_order m → cut_in (encode K) (pairs_in m) ≡ pairs_in (without (is_key K) m)
unfolding cut_in pairs_in without
cut_pairs K sorted_nil = refl
cut_pairs K (sorted_cons {r = r} {m = m} a s) = go (stands K r a) (cut_pairs K s)
  where
    go : Stands K r m → cut_in (encode K) (pairs_in m) ≡ pairs_in (without (is_key K) m) → cut_in (encode K) (pairs_in (r ∷ m)) ≡ pairs_in (without (is_key K) (r ∷ m))
    go (further e n) ih = rw (e, without-past K r m n, ih)
    go (here e q b) ih = rw (e, without-here K r m q, without_above K b)
    go (nowhere e b) ih = rw (e, without_above K b)

-- ---- look up

abbrev pub payload_in : Option Rec → Option (List ℕ)
payload_in None = None
payload_in (Some r) = Some (payload_of r)

look_above : (K : Fields) {m : Map} → Above key_order K m → look m K ≡ None
look_above K above_nil = unfold look in refl
look_above K (above_cons {r = r} {m = m} q a) = look-past r m (above_other K r q) ∙ look_above K a

look_at : (K : Fields) (r : Rec) (m : Map) → key_of r ≡ K → look (r ∷ m) K ≡ Some r
look_at K r m q = rw (← q) (look-here r m)

pub look-pairs : (K : Fields) {m : Map} → Sorted key_order m → look_in (encode K) (pairs_in m) ≡ payload_in (look m K)
unfolding look_in pairs_in look
look-pairs K sorted_nil = refl
look-pairs K (sorted_cons {r = r} {m = m} a s) = go (stands K r a) (look-pairs K s)
  where
    go : Stands K r m → look_in (encode K) (pairs_in m) ≡ payload_in (look m K) → look_in (encode K) (pairs_in (r ∷ m)) ≡ payload_in (look (r ∷ m) K)
    go (further e n) ih = rw (e, look-past r m n, ih)
    go (here e q b) ih = rw (e, look_at K r m q)
    go (nowhere e b) ih = rw (e, look_above K b)

pub live-pairs : (K : Fields) {m : Map} → Sorted key_order m → live_in (encode K) (pairs_in m) ≡ is_some (look m K)
unfolding live_in
live-pairs K {m} s = rw (look-pairs K s) (go (look m K))
  where
    go : (o : Option Rec) → Pairs.is_some (payload_in o) ≡ is_some o
    go None = refl
    go (Some r) = refl
