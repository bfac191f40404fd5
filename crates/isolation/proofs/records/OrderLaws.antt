-- The order of the records' keys is that of their bytes, and is an order as the laws of histories want one: total, and by its fields.
-- It holds of keys with any numbers, within the limits or not. Assumes nothing.
use Prim.Native.Nat.{Ordering}
use Prim.Native.Nat.{ℕ, ◌<◌}
use mathlib.Core.Path.{◌≡◌, refl, sym, ap, ◌∙◌}
use mathlib.Core.Logic.{◌≢◌}
use mathlib.Core.List.{[], ◌++◌, append-nil}
use Rattle.std.specs.declared.cmp.Ordering.{Ordering as Way}
use Rattle.std.specs.declared.cmp.Ordering.TheVariants.{Less, Equal, Greater}
use Rattle.keycode.specs.Number.{be}
use Rattle.keycode.specs.Strings.{escape}
use Rattle.keycode.specs.Order.{compare_nat, compare_bytes, and_then}
use Rattle.keycode.proofs.Basics.{nope, Ordered, below, same, above, ordered}
use Rattle.keycode.proofs.OrderLaws.{nat_equal, nat_greater, and_then_equal, flip, compare_flip, same_head, compare_refl, compare_equal, compare_trans}
use Rattle.keycode.proofs.NumberLaws.{compare_any}
use Rattle.keycode.specs.key.Keys.{Fields, txn_active, version, encode}
use Rattle.keycode.proofs.key.KeyLaws.{no_prefix}
use Rattle.keycode.proofs.SortLaws.{string_sorts}
use Rattle.isolation.specs.history.History.{Key}
use Rattle.isolation.specs.history.Records.{Before, Order}
use Rattle.isolation.specs.records.Stored.{ordering_of, key_order}

-- ---- what one order says of the other

is_less_lem : (o : Way) → ordering_of o ≡ Ordering.lt → o ≡ Less
is_less_lem Less e = refl
is_less_lem Equal e = nope (cc)
is_less_lem Greater e = nope (cc)

is_equal_lem : (o : Way) → ordering_of o ≡ Ordering.eq → o ≡ Equal
is_equal_lem Less e = nope (cc)
is_equal_lem Equal e = refl
is_equal_lem Greater e = nope (cc)

is_greater : (o : Way) → ordering_of o ≡ Ordering.gt → o ≡ Greater
is_greater Less e = nope (cc)
is_greater Equal e = nope (cc)
is_greater Greater e = refl

pub key_less : (K J : Fields) → key_order K J ≡ Ordering.lt → compare_bytes (encode K) (encode J) ≡ Less
unfolding key_order
key_less K J e = is_less_lem (compare_bytes (encode K) (encode J)) e

pub less_key : (K J : Fields) → compare_bytes (encode K) (encode J) ≡ Less → key_order K J ≡ Ordering.lt
unfolding key_order
less_key K J e = ap ordering_of e

-- ---- one key has its bytes

pub same_bytes : (K J : Fields) → compare_bytes (encode K) (encode J) ≡ Equal → K ≡ J
same_bytes K J e = no_prefix K J [] [] (append-nil (encode K) ∙ compare_equal (encode K) (encode J) e ∙ sym (append-nil (encode J)))

-- ---- by the fields

eight_order : (x y : ℕ) → compare_bytes (be 8 x) (be 8 y) ≡ compare_nat x y
unfolding compare_bytes
eight_order x y = rw (append-nil (be 8 x), append-nil (be 8 y)) at (compare_any 7 x y [] []) ∙ and_then_equal (compare_nat x y)

active_order : (x y : ℕ) → compare_bytes (encode (txn_active x)) (encode (txn_active y)) ≡ compare_nat x y
active_order x y = same_head 1 (be 8 x) (be 8 y) ∙ eight_order x y

version-order : (k j : Key) (x y : ℕ) → compare_bytes (encode (version k x)) (encode (version j y)) ≡ and_then (compare_bytes k j) (compare_nat x y)
version-order k j x y =
    same_head 4 (escape k ++ be 8 x) (escape j ++ be 8 y)
    ∙ string_sorts.sorted k j tt tt (be 8 x) (be 8 y)
    ∙ ap (and_then (compare_bytes k j)) (eight_order x y)

less_nat : (x y : ℕ) → compare_nat x y ≡ Less → x < y
less_nat x y e = go (ordered x y)
  where
    go : Ordered x y → x < y
    go (below h) = h
    go (same p) = nope (cc (nat_equal x y p))
    go (above h) = nope (cc (nat_greater x y h))

-- a string that is before another is so whatever follows the two
less_then : (a b c : Way) → (a ≡ Equal → ⊥) → and_then a b ≡ Less → and_then a c ≡ Less
less_then Less b c n e = refl
less_then Equal b c n e = absurd (n refl)
less_then Greater b c n e = nope (cc)

-- ---- the order of the keys

itself : (K : Fields) → key_order K K ≡ Ordering.eq
unfolding key_order
itself K = ap ordering_of (compare_refl (encode K))

same_key : (K J : Fields) → key_order K J ≡ Ordering.eq → K ≡ J
unfolding key_order
same_key K J e = same_bytes K J (is_equal_lem (compare_bytes (encode K) (encode J)) e)

flips : (K J : Fields) → key_order K J ≡ Ordering.gt → key_order J K ≡ Ordering.lt
unfolding key_order
flips K J e = ap ordering_of (compare_flip (encode K) (encode J) ∙ ap flip (is_greater (compare_bytes (encode K) (encode J)) e))

by_strings : (k j : Key) (x y : ℕ) → k ≢ j → key_order (version k x) (version j y) ≡ Ordering.lt → Before key_order k j
unfolding Before
by_strings k j x y n e u v =
    less_key (version k u) (version j v)
    (version-order k j u v
    ∙ less_then (compare_bytes k j) (compare_nat x y) (compare_nat u v) (λ q. n (compare_equal k j q)) (sym (version-order k j x y) ∙ key_less (version k x) (version j y) e))

pub order : Order key_order
order =
    record {
      same = same_key;
      itself = itself;
      flip = flips;
      trans = λ K J L p q. less_key K L (compare_trans (encode K) (encode J) (encode L) (key_less K J p) (key_less J L q));
      by_version = λ k x y e. less_nat x y (ap (λ (o : Way). and_then o (compare_nat x y)) (sym (compare_refl k)) ∙ sym (version-order k k x y) ∙ key_less (version k x) (version k y) e);
      by_active = λ x y e. less_nat x y (sym (active_order x y) ∙ key_less (txn_active x) (txn_active y) e);
      by_key = by_strings;
    }
