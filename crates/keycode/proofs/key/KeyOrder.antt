-- Encoded keys sort as their fields do: of one tag by the fields in turn, of two tags as the tags. Assumes nothing.
use Prim.Native.Nat.{ℕ, ◌^◌, ◌<◌}
use mathlib.Core.Path.{◌≡◌, ◌∙◌}
use mathlib.Core.List.{List, ◌++◌}
use Rattle.std.specs.declared.cmp.Ordering.TheVariants.{Less}
use Rattle.keycode.specs.Number.{be}
use Rattle.keycode.specs.Order.{compare_nat, compare_bytes, and_then}
use Rattle.keycode.specs.Strings.{escape}
use Rattle.keycode.specs.key.Keys.{Fields, txn_active, txn_active_snapshot, txn_write, version, unversioned, encode, tag_of}
use Rattle.keycode.proofs.OrderLaws.{nat_less, same_head}
use Rattle.keycode.proofs.SortLaws.{number_sorts, string_sorts, both_sort, alone}

pub order_tags : (k j : Fields) → tag_of k < tag_of j → compare_bytes (encode k) (encode j) ≡ Less
unfolding compare_bytes
order_tags k j h = rw (nat_less (tag_of k) (tag_of j) h)

pub order_active : (v w : ℕ) → v < 256 ^ 8 → w < 256 ^ 8 → compare_bytes (encode (txn_active v)) (encode (txn_active w)) ≡ compare_nat v w
order_active v w h g = same_head 1 (be 8 v) (be 8 w) ∙ alone (number_sorts 8) v w h g

pub order_snapshot : (v w : ℕ) → v < 256 ^ 8 → w < 256 ^ 8 → compare_bytes (encode (txn_active_snapshot v)) (encode (txn_active_snapshot w)) ≡ compare_nat v w
order_snapshot v w h g = same_head 2 (be 8 v) (be 8 w) ∙ alone (number_sorts 8) v w h g

pub order_write : (v w : ℕ) (a b : List ℕ) → v < 256 ^ 8 → w < 256 ^ 8
    → compare_bytes (encode (txn_write v a)) (encode (txn_write w b)) ≡ and_then (compare_nat v w) (compare_bytes a b)
order_write v w a b h g = same_head 3 (be 8 v ++ escape a) (be 8 w ++ escape b) ∙ alone (both_sort (number_sorts 8) string_sorts) (v, a) (w, b) (h, tt) (g, tt)

pub order-version : (a b : List ℕ) (v w : ℕ) → v < 256 ^ 8 → w < 256 ^ 8
    → compare_bytes (encode (version a v)) (encode (version b w)) ≡ and_then (compare_bytes a b) (compare_nat v w)
order-version a b v w h g = same_head 4 (escape a ++ be 8 v) (escape b ++ be 8 w) ∙ alone (both_sort string_sorts (number_sorts 8)) (a, v) (b, w) (tt, h) (tt, g)

pub order-unversioned : (a b : List ℕ) → compare_bytes (encode (unversioned a)) (encode (unversioned b)) ≡ compare_bytes a b
order-unversioned a b = same_head 5 (escape a) (escape b) ∙ alone string_sorts a b tt tt
